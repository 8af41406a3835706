-- One block more in each turn, and at the end the leftover where there is one. Assumes nothing.
use mathlib.Core.Bool.{false}
use lib.ListN.{length}
use Rattle.blockplan.proofs.Summing.{Summing}
use Rattle.blockplan.proofs.absorb.absorb.Given as goal

abbrev pub invariant-loop-rest : goal.invariant-loop-rest
invariant-loop-rest g l = Summing false l.rounds l.initial.mask l.s l.rest l.sum l.mask

abbrev pub decreases-loop-rest : goal.decreases-loop-rest
decreases-loop-rest g l = length l.rest
