-- Truth values: what holds of both, of the one that a test picks, and of each number below n where one test was computed for all. Assumes nothing.
use mathlib.Core.Path.{◌≡◌, refl}
use mathlib.Core.Bool.{Bool, true, false, cond, ◌&&◌, false≢true}
use Prim.Native.Nat.{ℕ, zero, suc, ◌<◌}
use native.Mathlib.Omega.{arith}
use native.Mathlib.Decide.{ℕ_discrete}
use lib.Dec.{eqb}
use borrow.Author.Tests.{eqb-true}

pub both : (a b : Bool) → (a && b) ≡ true → (a ≡ true) × (b ≡ true)
both true b e = (refl, e)
both false b e = absurd (false≢true e)

pub pick : {A : Type 0} (P : A → Type 0) (t : Bool) (x y : A) → P x → P y → P (cond t x y)
pick P true x y p q = p
pick P false x y p q = q

-- ---- one test, computed for each number below n

unfoldable pub all_below : (ℕ → Bool) → ℕ → Bool
all_below test zero = true
all_below test (suc n) = test n && all_below test n

-- carried to each number
pub carried : (test : ℕ → Bool) (n : ℕ) → all_below test n ≡ true → (k : ℕ) → k < n → test k ≡ true
unfolding all_below
carried test zero e k h = absurd (omega arith)
carried test (suc n) e k h = elim (ℕ_discrete k n) [
  | yes p ↦ rw p (both (test n) (all_below test n) e).0
  | no p ↦ carried test n (both (test n) (all_below test n) e).1 k (omega arith)
]

-- the test that f and g are equal there
pub equal-below : (f g : ℕ → ℕ) (n : ℕ) → all_below (λ k. eqb (f k) (g k)) n ≡ true → (k : ℕ) → k < n → f k ≡ g k
equal-below f g n e k h = eqb-true (f k) (g k) (carried (λ k. eqb (f k) (g k)) n e k h)
