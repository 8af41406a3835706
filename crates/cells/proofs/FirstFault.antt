-- The first fault is none exactly where the form is as said, and its cell is a cell of the store. Assumes nothing.
use mathlib.Core.Path.{◌≡◌, refl}
use mathlib.Core.Bool.{Bool, true, false, cond}
use mathlib.Core.List.{List, []}
use Prim.Native.Nat.{ℕ, ◌-◌, ◌<◌, ◌^◌}
use native.Mathlib.Omega.{arith}
use lib.Dec.{ltb, lit<}
use borrow.Author.Tests.{ltb-true}
use Rattle.std.specs.Prelude.{Ok, Err}
use Rattle.answers.specs.Answers.{Check, clear}
use Rattle.answers.proofs.Values.{place_of, after}
use Rattle.cells.specs.declared.Fault.TheVariants.{Length, Index, Kind}
use Rattle.cells.specs.Cells.{cells, first_sale, first_free, length_fits, formed}
use Rattle.cells.specs.Faults.{Stop, Finding, sound, sales_walk, free_walk, unfit, length_or, broken_or, kind_fault, form_fault, fault_of, fault_check}
use Rattle.cells.specs.FirstFault.{FirstFault}
use Rattle.cells.proofs.Form.{long_of}
use Rattle.cells.proofs.Counts.{first-low}
use Rattle.cells.proofs.Walks.{proper-nil, walk-proper, walk-enough, stop_cell, walk-low}
use Rattle.cells.proofs.Faults.{sound-formed, formed-sound}

-- ---- the check of a fault

-- nothing is found exactly where there is no fault
pub check_sound : (f : Finding) (next : Check) → fault_check f next ≡ clear → (f ≡ sound) × (next ≡ clear)
unfolding fault_check
check_sound (Ok none) next e = (refl, e)
check_sound (Err Length) next e = absurd (let q : ◌≡◌ {A = ℕ} 0 1 = cc in omega arith)
check_sound (Err (Index c)) next e = absurd (let q : ◌≡◌ {A = ℕ} 0 1 = cc in omega arith)
check_sound (Err (Kind c)) next e = absurd (let q : ◌≡◌ {A = ℕ} 0 1 = cc in omega arith)

pub check-formed : (s : List ℕ) (next : Check) → fault_check (fault_of s) next ≡ clear → (formed s ≡ true) × (next ≡ clear)
check-formed s next e = let h = check_sound (fault_of s) next e in (sound-formed s h.0, h.1)

pub formed-check : (s : List ℕ) (next : Check) → formed s ≡ true → fault_check (fault_of s) next ≡ next
unfolding fault_check
formed-check s next e = rw (formed-sound s e)

-- the checks behind it decide where it finds nothing
pub check-after : (f : Finding) (next : Check) → fault_check f next ≡ after (fault_check f clear) next
unfolding fault_check after
check-after (Ok none) next = refl
check-after (Err Length) next = refl
check-after (Err (Index c)) next = refl
check-after (Err (Kind c)) next = refl

-- of the length alone
pub length-clear : (s : List ℕ) → fault_check (length_or s sound) clear ≡ clear → length_fits s ≡ true
unfolding length_or
length-clear s e = go (length_fits s) (check_sound _ clear e).0 where
  go : (t : Bool) → cond t sound (Err Length) ≡ sound → t ≡ true
  go true q = refl
  go false q = absurd (let z : ◌≡◌ {A = ℕ} 0 1 = cc in omega arith)

pub length-place : (s : List ℕ) → place_of (fault_check (length_or s sound) clear) ≡ 0
unfolding length_or fault_check
length-place s = go (length_fits s) where
  go : (t : Bool) → place_of (fault_check (cond t sound (Err Length)) clear) ≡ 0
  go true = refl
  go false = refl

-- ---- its cell

-- the cell of a fault, where it has one, is a cell of n, which are few; and that of a kind never cell 0
unfoldable Among : ℕ → Finding → Type 0
Among n (Ok none) = Unit {0}
Among n (Err Length) = Unit {0}
Among n (Err (Index c)) = (c < n) × (n < 2 ^ 32)
Among n (Err (Kind c)) = ((0 < c) × (c < n)) × (n < 2 ^ 32)

module _ (n : ℕ) (few : n < 2 ^ 32) where
  broken-among : (w : Stop) (f : Finding) → stop_cell w < n → Among n f → Among n (broken_or w f)
  unfolding stop_cell broken_or Among
  broken-among (Ok none) f a b = b
  broken-among (Err c) f a b = (a, few)

  kind-among : (c : ℕ) → 0 < c → Among n (kind_fault n c)
  unfolding kind_fault Among
  kind-among c o = by_test (ltb c n) refl where
    by_test : (t : Bool) → ltb c n ≡ t → Among n (cond t (Err (Kind c)) sound)
    by_test true e = ((o, ltb-true c n e), few)
    by_test false e = tt

fault-among : (s : List ℕ) → Among (cells s) (fault_of s)
unfolding fault_of length_or form_fault sales_walk free_walk Among
fault-among s = by_length (length_fits s) refl where
  inside : length_fits s ≡ true → Among (cells s) (form_fault s)
  inside e =
      let l = long_of s e in
      let o : 0 < cells s = omega (arith, l.least, l.whole) in
      let few : cells s < 2 ^ 32 = omega (arith, l.most, l.whole) in
      broken-among (cells s) few _ _ (walk-low s (cells s) [] 0 (first_sale s) o)
      (broken-among (cells s) few _ _ (walk-low s (cells s) (sales_walk s).1 0 (first_free s) o) (kind-among (cells s) few _ (omega (arith, first-low (unfit s (sales_walk s).1 (free_walk s).1) 1 (cells s - 1)))))

  by_length : (t : Bool) → length_fits s ≡ t → Among (cells s) (cond t (form_fault s) (Err Length))
  by_length true e = inside e
  by_length false e = tt

-- the place of what is found, where the next check's is small
pub check-place : (s : List ℕ) (next : Check) → (formed s ≡ true → place_of next < 2 ^ 32) → place_of (fault_check (fault_of s) next) < 2 ^ 32
unfolding fault_check Among
check-place s next h = go (fault_of s) refl (fault-among s) where
  go : (f : Finding) → fault_of s ≡ f → Among (cells s) f → place_of (fault_check f next) < 2 ^ 32
  go (Ok none) e a = h (sound-formed s e)
  go (Err Length) e a = lit< tt
  go (Err (Index c)) e a = omega (arith, a.0, a.1)
  go (Err (Kind c)) e a = omega (arith, a.0.1, a.1)

pub first-fault : FirstFault
unfolding Among sales_walk free_walk
first-fault = record {
  clear-formed = λ s e. (check-formed s clear e).0;
  formed-clear = λ s e. formed-check s clear e;
  index-cell = λ s c e. (rw e at (fault-among s)).0;
  kind-cell = λ s c e. (rw e at (fault-among s)).0;
  place-low = λ s g at e. rw e at (check-place s clear (λ f. lit< tt));
  sales-steps = λ s more. walk-enough s more (cells s) [] 0 (first_sale s) (proper-nil s) (omega arith);
  free-steps = λ s more. walk-enough s more (cells s) (sales_walk s).1 0 (first_free s) (walk-proper s (cells s) [] 0 (first_sale s) (proper-nil s)) (omega arith);
}
