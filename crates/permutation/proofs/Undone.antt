-- The back permutation undoes P, and P the back permutation, for every block and every count of rounds. Assumes nothing.
use Rattle.std.proofs.Common.{ℕ, List, [], ◌∷◌}
use Rattle.words.specs.Block.{Block}
use Rattle.words.specs.Undo.{Undo}
use Rattle.words.proofs.Maps.{undo-same, undo-then}
use Rattle.words.proofs.Times.{undo-times}
use Rattle.permutation.specs.Permutation.{g_at, back_g_at, over, back_over, groups, round, back_round, perm, back_perm}
use Rattle.permutation.specs.Undo.{BackUndoes}
use Rattle.permutation.proofs.Lines.{g-undo}
use Rattle.permutation.proofs.Places.{Row, undo-at}
use Rattle.permutation.proofs.Groups.{Each, groups-rows}

-- G over one group
pub g_at-undo : (row : List ℕ) → Row row → Undo Block (g_at row) (back_g_at row)
unfolding g_at back_g_at
g_at-undo row r = undo-at g-undo row r

-- G over groups in turn
pub over-undo : (rows : List (List ℕ)) → Each Row rows → Undo Block (over rows) (back_over rows)
unfolding over back_over
over-undo [] rs = undo-same
over-undo (row ∷ rows) rs = undo-then (g_at-undo row rs.0) (over-undo rows rs.1)

-- a round
pub round-undo : Undo Block round back_round
unfolding round back_round
round-undo = over-undo groups groups-rows

-- P of n rounds, for every n
pub perm-undo : (n : ℕ) → Undo Block (perm n) (back_perm n)
unfolding perm back_perm
perm-undo n = undo-times round-undo n

-- P gives a block
pub perm-block : (n : ℕ) (s : List ℕ) → Block s → Block (perm n s)
perm-block n = (perm-undo n).forth-keeps

pub back-undoes : BackUndoes
back-undoes = record { undone = perm-undo }
