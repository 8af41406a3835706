use Rattle.chains.specs.Sound.{BothUpTo}
use Rattle.chains.proofs.sound.walk_both.Given as goal

abbrev pub invariant-loop-sold : goal.invariant-loop-sold
invariant-loop-sold l = BothUpTo l.s l.sold l.free l.left

abbrev pub decreases-loop-sold : goal.decreases-loop-sold
decreases-loop-sold l = l.left
