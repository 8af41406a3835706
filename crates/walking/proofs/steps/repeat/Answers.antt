-- The loop's invariant: b is the start after so many steps. Assumes nothing.
use Rattle.words.proofs.Lists.{timesed}
use Rattle.walking.proofs.steps.repeat.Goals as goal

pub loop-preserved : goal.loop-preserved
loop-preserved g c = λ h d. timesed h _ c.loop.counter _ _ (c.loop.invariant h d) (d _ _ c.step-next.ensures)
