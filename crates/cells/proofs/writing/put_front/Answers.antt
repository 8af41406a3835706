use native.Mathlib.Omega.{arith}
use Rattle.cells.specs.Cells.{cells}
use Rattle.cells.proofs.Written.{front-put}
use Rattle.cells.proofs.writing.put_front.Goals as goal

pub returns : goal.returns
unfolding cells
returns c = front-put _ _ _ _ _ (omega arith) c.put_index.ensures
