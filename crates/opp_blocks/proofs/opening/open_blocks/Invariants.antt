-- One block more in each turn. Assumes nothing.
use mathlib.Core.Bool.{true}
use Rattle.blockplan.specs.Pass.{stepping, Passed}
use Rattle.opp_blocks.proofs.opening.open_blocks.Given as goal

abbrev pub invariant-loop-i : goal.invariant-loop-i
invariant-loop-i l = Passed true l.rounds (stepping l.initial.mask) l.s l.i l.initial.out l.out l.sum l.mask
