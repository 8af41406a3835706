use native.Mathlib.Omega.{arith}
use Rattle.cells.specs.Cells.{cells}
use Rattle.cells.proofs.Written.{free-put}
use Rattle.cells.proofs.writing.put_free.Goals as goal

pub returns : goal.returns
unfolding cells
returns c = free-put _ _ _ _ _ (omega arith) c.put_index.ensures (c.fill.ensures.after (λ y h. h))
