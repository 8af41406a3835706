-- The loop's invariant: r is what the lowest n bits choose. Assumes nothing.
use mathlib.Core.Path.{◌≡◌}
use Rattle.back_steps.specs.BackSteps.{chosen}
use Rattle.back_steps.proofs.back.choose.Given as goal

abbrev pub invariant-loop-n : goal.invariant-loop-n
invariant-loop-n l = l.r ≡ chosen l.t l.at l.step l.e l.n
