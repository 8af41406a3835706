-- One block more in each turn. Assumes nothing.
use mathlib.Core.Bool.{true}
use lib.ListN.{length}
use Rattle.blockplan.proofs.Summing.{Summing}
use Rattle.opp_blocks.proofs.judging.check_blocks.Given as goal

abbrev pub invariant-loop-rest : goal.invariant-loop-rest
invariant-loop-rest l = Summing true l.rounds l.initial.mask l.s l.rest l.sum l.mask

abbrev pub decreases-loop-rest : goal.decreases-loop-rest
decreases-loop-rest l = length l.rest
