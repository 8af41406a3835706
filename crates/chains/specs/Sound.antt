-- Parts of a chain, walked without marks: what functions promise each other. Assumes nothing.
use Rattle.std.specs.Prelude.{◌≡◌, Bool, true, false, List, [], ◌∷◌, ℕ, ◌+◌, ◌<◌, length}
use Rattle.cells.specs.Cells.{cells, first_sale, first_free, next_of, kind_of, kind_fits}

-- from index i the cells of the list, each inside and of a kind that fits, one after the other, and then index j
abbrev pub Segment : List ℕ → Bool → ℕ → List ℕ → ℕ → Type 0
Segment s sold i [] j = i ≡ j
Segment s sold i (c ∷ l) j = (i ≡ c) × (0 < c) × (c < cells s) × (kind_fits sold (kind_of s c) ≡ true) × Segment s sold (next_of s c) l j

-- both chains were walked up to these indices, and so many cells are left
pub record BothUpTo (s : List ℕ) (sold free left : ℕ) : Type 0 where
  pub sales : List ℕ
  pub spare : List ℕ
  pub of-sales : Segment s true (first_sale s) sales sold
  pub of-spare : Segment s false (first_free s) spare free
  pub many : left + 1 + (length sales + length spare) ≡ cells s

-- a chain was walked from one index to another, and so many cells are left of the first number
pub record OneUpTo (s : List ℕ) (sold : Bool) (first at most left : ℕ) : Type 0 where
  pub chain : List ℕ
  pub segment : Segment s sold first chain at
  pub many : left + length chain ≡ most
