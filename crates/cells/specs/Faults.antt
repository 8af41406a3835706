-- What is broken in a store: its first fault, and what it is refused with (document 02, card 7). Assumes nothing.
use Rattle.std.specs.Prelude.{Bool, cond, not, ◌||◌, List, [], ◌∷◌, ◌++◌, ℕ, zero, suc, ◌-◌, eqb, leb, ltb, Result, Ok, Err, ⊤}
use Rattle.answers.specs.declared.Refusal.{Refusal}
use Rattle.answers.specs.Answers.{Check}
use Rattle.answers.specs.Refusals.{refusal}
use Rattle.answers.specs.declared.Ground.TheVariants.{StoreLength, StoreIndex, StoreKind}
use Rattle.cells.specs.Chains.{is_in, first_from}
use Rattle.cells.specs.Cells.{cells, first_sale, first_free, next_of, kind_of, kind_fits, length_fits}
use Rattle.cells.specs.declared.Fault.{Fault}
use Rattle.cells.specs.declared.Fault.TheVariants.{Length, Index, Kind}

-- ---- the walk

-- how a walk stops: at a zero index, or at a broken one, with the cell that held it
abbrev pub Stop : Type 0
Stop = Result ⊤ ℕ

-- a walk that came to the end of its chain
abbrev pub ended : Stop
ended = Ok tt

-- the walk from an index on, which the cell `from` holds, where these cells were reached before: how it stops, and all cells reached by then, those from before among them. Zero ends the chain; "an index
-- past the last cell, or a cell reached twice, stops the walk with the cell that held the index". The number is that of the steps it may take. With none left an index that is not zero counts as broken, which never
-- decides where there are as many steps as cells: each step reaches another cell (FirstFault: sales-steps, free-steps)
unfoldable pub walk_of : List ℕ → ℕ → List ℕ → ℕ → ℕ → Stop × List ℕ
walk_of s zero reached from at = cond (eqb at 0) (ended, reached) (Err from, reached)
walk_of s (suc steps) reached from at =
    cond (eqb at 0) (ended, reached)
    (cond (leb (cells s) at || is_in at reached) (Err from, reached)
    (walk_of s steps (reached ++ (at ∷ [])) at (next_of s at)))

-- "cell 0's chains are walked, sales first": cell 0 holds the first sale's index
unfoldable pub sales_walk : List ℕ → Stop × List ℕ
sales_walk s = walk_of s (cells s) [] 0 (first_sale s)

-- then the free cells; what the sales' walk reached was reached before
unfoldable pub free_walk : List ℕ → Stop × List ℕ
free_walk s = walk_of s (cells s) (sales_walk s).1 0 (first_free s)

-- ---- the first fault

-- what is found of a store's form: nothing, or its first fault
abbrev pub Finding : Type 0
Finding = Result ⊤ Fault

-- no fault
abbrev pub sound : Finding
sound = Ok tt

-- "A wrong buffer length comes first"; else what follows
unfoldable pub length_or : List ℕ → Finding → Finding
length_or s next = cond (length_fits s) next (Err Length)

-- a walk that was stopped is the fault, with the cell that held the index; else what follows
unfoldable pub broken_or : Stop → Finding → Finding
broken_or (Ok none) next = next
broken_or (Err c) next = Err (Index c)

-- "a kind byte that doesn't fit its chain or a cell in neither chain", by the cells that the sales' walk reached and those that both did; of a cell in neither chain the kind does not matter
unfoldable pub unfit : List ℕ → List ℕ → List ℕ → ℕ → Bool
unfit s sold reached c = not (kind_fits (is_in c sold) (kind_of s c)) || not (is_in c reached)

-- such a cell is the fault; the number of cells, n, stands for none
unfoldable pub kind_fault : ℕ → ℕ → Finding
kind_fault n c = cond (ltb c n) (Err (Kind c)) sound

-- the walks; "last, in cell order", from cell 1 on, the kinds and the missing cells
unfoldable pub form_fault : List ℕ → Finding
form_fault s =
    broken_or (sales_walk s).0
    (broken_or (free_walk s).0
    (kind_fault (cells s) (first_from (unfit s (sales_walk s).1 (free_walk s).1) 1 (cells s - 1))))

-- the first fault
unfoldable pub fault_of : List ℕ → Finding
fault_of s = length_or s (form_fault s)

-- ---- its number and place

-- "18 length; then 19 index, with the cell; then 20 kind or missing cell, with the cell"
abbrev pub refused_for : Fault → Refusal
refused_for Length = refusal StoreLength 0
refused_for (Index c) = refusal StoreIndex c
refused_for (Kind c) = refusal StoreKind c

-- where there is no fault the next check decides
unfoldable pub fault_check : Finding → Check → Check
fault_check (Ok none) next = next
fault_check (Err found) next = Err (refused_for found)
