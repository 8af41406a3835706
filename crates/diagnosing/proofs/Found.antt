-- The first setting of a list that passes a test. Assumes nothing.
use mathlib.Core.Path.{◌≡◌, refl, ap}
use mathlib.Core.Bool.{Bool, true, false, cond}
use mathlib.Core.List.{List, [], ◌∷◌}
use Prim.Native.Nat.{ℕ, zero, suc, ◌<◌}
use native.Mathlib.Omega.{arith}
use lib.ListN.{length}
use Rattle.diagnosing.specs.declared.Setting.{Setting}
use Rattle.diagnosing.specs.Diagnosing.{nth, first_of}

module _ (test : Setting → Bool) where
  -- ---- it passes, and none before it does

  opens-here : (s : Setting) (rest : List Setting) (t : Bool) → test s ≡ t → (first_of test rest < length rest → test (nth rest (first_of test rest)) ≡ true)
      → cond t 0 (suc (first_of test rest)) < suc (length rest) → test (nth (s ∷ rest) (cond t 0 (suc (first_of test rest)))) ≡ true
  unfolding nth
  opens-here s rest true e next h = e
  opens-here s rest false e next h = next (omega arith)

  pub first-opens : (l : List Setting) → first_of test l < length l → test (nth l (first_of test l)) ≡ true
  unfolding first_of
  first-opens [] h = absurd (omega arith)
  first-opens (s ∷ rest) h = opens-here s rest (test s) refl (first-opens rest) h

  earlier-here : (s : Setting) (rest : List Setting) (t : Bool) → test s ≡ t → ((m : ℕ) → m < first_of test rest → test (nth rest m) ≡ false)
      → (m : ℕ) → m < cond t 0 (suc (first_of test rest)) → test (nth (s ∷ rest) m) ≡ false
  unfolding nth
  earlier-here s rest true e next m h = absurd (omega arith)
  earlier-here s rest false e next zero h = e
  earlier-here s rest false e next (suc m) h = next m (omega arith)

  pub first-earlier : (l : List Setting) (m : ℕ) → m < first_of test l → test (nth l m) ≡ false
  unfolding first_of
  first-earlier [] m h = absurd (omega arith)
  first-earlier (s ∷ rest) m h = earlier-here s rest (test s) refl (first-earlier rest) m h

  -- ---- and it is the only such

  pub first-is : (l : List Setting) (n : ℕ) → n < length l → ((m : ℕ) → m < n → test (nth l m) ≡ false) → test (nth l n) ≡ true → first_of test l ≡ n
  unfolding first_of nth
  first-is [] n h before here = absurd (omega arith)
  first-is (s ∷ rest) zero h before here = rw here
  first-is (s ∷ rest) (suc n) h before here = rw (before 0 (omega arith)) (ap suc (first-is rest n (omega arith) (λ m p. before (suc m) (omega arith)) here))

  -- where none passes it is the list's length
  pub first-none : (l : List Setting) → ((m : ℕ) → m < length l → test (nth l m) ≡ false) → first_of test l ≡ length l
  unfolding first_of nth
  first-none [] h = refl
  first-none (s ∷ rest) h = rw (h 0 (omega arith)) (ap suc (first-none rest (λ m p. h (suc m) (omega arith))))
