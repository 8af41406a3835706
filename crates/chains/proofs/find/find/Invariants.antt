use Rattle.cells.specs.Cells.{named}
use Rattle.cells.proofs.Along.{left_from}
use Rattle.chains.proofs.Seeks.{Seeking}
use Rattle.chains.proofs.find.find.Given as goal

abbrev pub invariant-loop-at : goal.invariant-loop-at
invariant-loop-at l = Seeking l.s (named l.name.machine l.name.sale l.s) l.before l.at

abbrev pub decreases-loop-at : goal.decreases-loop-at
decreases-loop-at l = left_from l.s l.at
