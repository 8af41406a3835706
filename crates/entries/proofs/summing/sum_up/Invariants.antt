use Rattle.cells.proofs.Along.{left_from}
use Rattle.entries.proofs.Summed.{Summing}
use Rattle.entries.proofs.summing.sum_up.Given as goal

abbrev pub invariant-loop-at : goal.invariant-loop-at
invariant-loop-at l = Summing l.key l.s l.sum l.at

abbrev pub decreases-loop-at : goal.decreases-loop-at
decreases-loop-at l = left_from l.s l.at
