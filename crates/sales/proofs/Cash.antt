-- A value by whether two numbers are equal, and an amount times 1 or 0. Assumes nothing.
use mathlib.Core.Bool.{Bool, true, false, cond}
use mathlib.Core.Path.{◌≡◌, refl}
use Prim.Native.Nat.{ℕ, ◌*◌, ◌≤◌}
use native.Mathlib.Nat.{mul-one, mul-zero}
use native.Mathlib.Omega.{arith}
use lib.Dec.{eqb}
use borrow.Author.Tests.{eqb-true, eqb-false}

pub by_eqb : (a b x y k : ℕ) → (a ≡ b → k ≡ x) → ((a ≡ b → ⊥) → k ≡ y) → k ≡ cond (eqb a b) x y
by_eqb a b x y k same other = go (eqb a b) refl
  where
    go : (t : Bool) → eqb a b ≡ t → k ≡ cond t x y
    go true e = same (eqb-true a b e)
    go false e = other (eqb-false a b e)

pub times-chosen : (t : Bool) (n k : ℕ) → k ≡ cond t 1 0 → n * k ≡ cond t n 0
times-chosen true n k e = rw e (mul-one n)
times-chosen false n k e = rw e (mul-zero n)

pub chosen-le : (t : Bool) (n : ℕ) → cond t n 0 ≤ n
chosen-le true n = omega arith
chosen-le false n = omega arith
