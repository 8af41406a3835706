-- The groups of word numbers: each is four places of a block. Assumes nothing.
use Rattle.std.proofs.Common.{ℕ, List, [], ◌∷◌, arith}
use Rattle.permutation.specs.Permutation.{columns, diagonals, groups}
use Rattle.permutation.proofs.Places.{Row}

-- P holds of each row of a list
abbrev pub Each : (List ℕ → Type 0) → List (List ℕ) → Type 0
Each P [] = Unit
Each P (row ∷ rows) = P row × Each P rows

-- each of the eight groups is four places of a block, computed
pub groups-rows : Each Row groups
unfolding groups columns diagonals
groups-rows = (omega arith, (omega arith, (omega arith, (omega arith, (omega arith, (omega arith, (omega arith, (omega arith, tt))))))))
