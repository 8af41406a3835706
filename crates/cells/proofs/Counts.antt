-- How often a number stands in a list; the first number for which a test holds. Assumes nothing.
use mathlib.Core.Path.{◌≡◌, refl, sym, ◌∙◌, ap}
use mathlib.Core.Bool.{Bool, true, false, cond, ◌||◌}
use mathlib.Core.List.{List, [], ◌∷◌, ◌++◌}
use Prim.Native.Nat.{ℕ, zero, suc, ◌+◌, ◌-◌, ◌≤◌, ◌<◌}
use native.Mathlib.Nat.{add_assoc, add-zero}
use native.Mathlib.Numerals.{add-one}
use native.Mathlib.Omega.{arith}
use native.Mathlib.Decide.{dec_lt, ℕ_discrete}
use lib.Dec.{eqb}
use borrow.Author.Tests.{eq-eqb, ne_eqb}
use Rattle.cells.specs.Chains.{count, is_in, first_from}

pub count-append : (c : ℕ) (l m : List ℕ) → count c (l ++ m) ≡ count c l + count c m
unfolding count
count-append c [] m = omega arith
count-append c (d ∷ l) m = rw (count-append c l m) (sym (add_assoc (cond (eqb d c) 1 0) (count c l) (count c m)))

-- one more at the end
pub count-last : (c : ℕ) (l : List ℕ) (d : ℕ) → count c (l ++ (d ∷ [])) ≡ count c l + cond (eqb d c) 1 0
unfolding count
count-last c l d = count-append c l (d ∷ []) ∙ omega arith

first-within : (p : ℕ → Bool) (c n : ℕ) → (c ≤ first_from p c n) × (first_from p c n ≤ c + n)
unfolding first_from
first-within p c zero = (omega arith, omega arith)
first-within p c (suc n) = by_test (p c) (first-within p (suc c) n) where
  by_test : (t : Bool) → (suc c ≤ first_from p (suc c) n) × (first_from p (suc c) n ≤ suc c + n) → (c ≤ cond t c (first_from p (suc c) n)) × (cond t c (first_from p (suc c) n) ≤ c + suc n)
  by_test true h = (omega arith, omega arith)
  by_test false h = (omega arith, omega arith)

pub first-low : (p : ℕ → Bool) (c n : ℕ) → c ≤ first_from p c n
first-low p c n = (first-within p c n).0

-- tests that agree find the same
pub first-ext : (p q : ℕ → Bool) (c n : ℕ) → ((i : ℕ) → p i ≡ q i) → first_from p c n ≡ first_from q c n
unfolding first_from
first-ext p q c zero h = refl
first-ext p q c (suc n) h = rw (h c, first-ext p q (suc c) n h)

-- the search for the one, then below what it found for the other
pub first-or : (p q : ℕ → Bool) (c n : ℕ) → first_from q c (first_from p c n - c) ≡ first_from (λ i. p i || q i) c n
unfolding first_from
first-or p q c zero = let e : c - c ≡ 0 = omega arith in rw e
first-or p q c (suc n) = by_test (p c) (first-or p q (suc c) n) where
  by_test : (t : Bool) → first_from q (suc c) (first_from p (suc c) n - suc c) ≡ first_from (λ i. p i || q i) (suc c) n → first_from q c (cond t c (first_from p (suc c) n) - c) ≡ cond (t || q c) c (first_from (λ i. p i || q i) (suc c) n)
  by_test true h = let e : c - c ≡ 0 = omega arith in rw e
  by_test false h =
      let l = first-low p (suc c) n in
      let e : first_from p (suc c) n - c ≡ suc (first_from p (suc c) n - suc c) = omega arith in
      rw (e, h)

-- found here, not here, nowhere
pub first-here : (p : ℕ → Bool) (c e : ℕ) → c < e → p c ≡ true → first_from p c (e - c) ≡ c
unfolding first_from
first-here p c e l h = let n : e - c ≡ suc (e - suc c) = omega arith in rw (n, h)

pub first_on : (p : ℕ → Bool) (c e : ℕ) → c < e → p c ≡ false → first_from p c (e - c) ≡ first_from p (c + 1) (e - (c + 1))
unfolding first_from
first_on p c e l h = let n : e - c ≡ suc (e - suc c) = omega arith in rw (n, h, add-one)

pub first-none : (p : ℕ → Bool) (c e : ℕ) → e ≤ c → first_from p c (e - c) ≡ c
unfolding first_from
first-none p c e l = let n : e - c ≡ 0 = omega arith in rw n

-- nothing is found exactly where the test holds nowhere
pub first-all : (p : ℕ → Bool) (c n : ℕ) → c + n ≤ first_from p c n → (i : ℕ) → c ≤ i → i < c + n → p i ≡ false
unfolding first_from
first-all p c zero h i a b = absurd (omega arith)
first-all p c (suc n) h i a b = by_test (p c) refl h (first-all p (suc c) n) where
  by_test : (t : Bool) → p c ≡ t → c + suc n ≤ cond t c (first_from p (suc c) n)
      → (suc c + n ≤ first_from p (suc c) n → (j : ℕ) → suc c ≤ j → j < suc c + n → p j ≡ false) → p i ≡ false
  by_test true e g k = absurd (omega arith)
  by_test false e g k = elim (ℕ_discrete i c) [ yes f ↦ rw f e | no f ↦ k (omega arith) i (omega (arith, f)) (omega arith) ]

pub all_first : (p : ℕ → Bool) (c n : ℕ) → ((i : ℕ) → c ≤ i → i < c + n → p i ≡ false) → first_from p c n ≡ c + n
unfolding first_from
all_first p c zero h = omega arith
all_first p c (suc n) h = rw (h c (omega arith) (omega arith)) (all_first p (suc c) n (λ i a b. h i (omega arith) (omega arith)) ∙ omega arith)

-- where the test holds for none of the first, the search may begin behind them
pub first-skip : (p : ℕ → Bool) (c k e : ℕ) → c + k ≤ e → ((i : ℕ) → c ≤ i → i < c + k → p i ≡ false) → first_from p c (e - c) ≡ first_from p (c + k) (e - (c + k))
first-skip p c zero e l h = rw add-zero
first-skip p c (suc k) e l h =
    let a : c + 1 + k ≡ c + suc k = omega arith in
    first_on p c e (omega arith) (h c (omega arith) (omega arith))
    ∙ first-skip p (c + 1) k e (omega arith) (λ i a b. h i (omega arith) (omega arith)) ∙ ap (λ (n : ℕ). first_from p n (e - n)) a

-- what is found: the test holds there, and nowhere before
pub first-is : (p : ℕ → Bool) (k n : ℕ) → 1 ≤ k → k ≤ n → ((i : ℕ) → 1 ≤ i → i < k → p i ≡ false) → (k < n → p k ≡ true) → first_from p 1 (n - 1) ≡ k
first-is p k n a b before here =
    let e : 1 + (k - 1) ≡ k = omega arith in
    first-skip p 1 (k - 1) n (omega arith) (λ i c d. before i c (omega arith)) ∙ ap (λ (j : ℕ). first_from p j (n - j)) e ∙ elim (dec_lt k n) [ yes l ↦ first-here p k n l (here l) | no q ↦ first-none p k n (omega arith) ]

-- a cell of the list, and one that is not
pub in-yes : (c : ℕ) (l : List ℕ) → 0 < count c l → is_in c l ≡ true
unfolding is_in
in-yes c l h = rw (ne_eqb (count c l) 0 (λ e. omega arith))

pub in-no : (c : ℕ) (l : List ℕ) → count c l ≡ 0 → is_in c l ≡ false
unfolding is_in
in-no c l h = rw (eq-eqb (count c l) 0 h)
