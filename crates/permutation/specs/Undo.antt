-- The back permutation undoes P (document 01, "The permutation (section 8)"; document 02, card 2). Assumes nothing.
use Rattle.std.specs.Prelude.{ℕ}
use Rattle.words.specs.Undo.{Undo}
use Rattle.words.specs.Block.{Block}
use Rattle.permutation.specs.Permutation.{perm, back_perm}

-- back after P and P after back give the same block, for every block and every count of rounds, 1 to 12 among them; proved as back-undoes in proofs/Undone
pub record BackUndoes : Type 0 where
  pub undone : (n : ℕ) → Undo Block (perm n) (back_perm n)
