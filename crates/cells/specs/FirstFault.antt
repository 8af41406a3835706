-- The first fault and card 1's sentence, with card 8's kinds: what is refused, and what is not (document 02, cards 1, 7 and 8). Which fault comes first is Faults' definition. Assumes nothing.
use Rattle.std.specs.Prelude.{◌≡◌, true, List, [], ℕ, ◌+◌, ◌^◌, ◌<◌, Err}
use Rattle.answers.specs.Answers.{clear}
use Rattle.answers.specs.Refusals.{refusal}
use Rattle.answers.specs.declared.Ground.{Ground}
use Rattle.cells.specs.Cells.{cells, first_sale, first_free, formed}
use Rattle.cells.specs.Faults.{walk_of, sales_walk, free_walk, fault_of, fault_check}
use Rattle.cells.specs.declared.Fault.TheVariants.{Index, Kind}

-- for every list of bytes; proved as first-fault in proofs/FirstFault
pub record FirstFault : Type 0 where
  -- none of 18, 19 and 20 is found exactly where the form is as cards 1 and 8 say: the length as said, no index past the last cell, each kind fitting its chain, and the two chains covering every cell but 0 exactly once
  pub clear-formed : (s : List ℕ) → fault_check (fault_of s) clear ≡ clear → formed s ≡ true
  pub formed-clear : (s : List ℕ) → formed s ≡ true → fault_check (fault_of s) clear ≡ clear
  -- the place of 19 and of 20 is a cell of the store, that of 20 never cell 0
  pub index-cell : (s : List ℕ) (c : ℕ) → fault_of s ≡ Err (Index c) → c < cells s
  pub kind-cell : (s : List ℕ) (c : ℕ) → fault_of s ≡ Err (Kind c) → (0 < c) × (c < cells s)
  -- and every place below 2^32, so that C reads it off the one number
  pub place-low : (s : List ℕ) (why : Ground) (place : ℕ) → fault_check (fault_of s) clear ≡ Err (refusal why place) → place < 2 ^ 32
  -- more steps than there are cells lead no walk further
  pub sales-steps : (s : List ℕ) (more : ℕ) → walk_of s (cells s + more) [] 0 (first_sale s) ≡ sales_walk s
  pub free-steps : (s : List ℕ) (more : ℕ) → walk_of s (cells s + more) (sales_walk s).1 0 (first_free s) ≡ free_walk s
