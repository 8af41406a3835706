-- Laws of the comparison: no bit differs exactly where all numbers are the same. Assumes nothing.
use mathlib.Core.Path.{◌≡◌, refl, sym, ap, ap₂, ◌∙◌}
use mathlib.Core.Bool.{Bool, true, ◌&&◌, and-true, and_assoc, false≢true}
use mathlib.Core.List.{List, [], ◌∷◌, ◌++◌}
use Prim.Native.Nat.{ℕ, zero, suc, ◌≤◌}
use native.Mathlib.Omega.{arith}
use native.Mathlib.Decide.{ℕ_discrete}
use lib.Dec.{eqb}
use lib.Bits.{bit_or, bit_xor, xor_self, and_le_r, or_add_and}
use lib.ListN.{length, get_or, take}
use lib.Seq.{take-suc, length-take-le}
use borrow.Author.Tests.{eq-eqb, ne_eqb, eqb-true}
use Rattle.words.proofs.Truth.{both}
use Rattle.words.proofs.Xor.{xor-cancel-r}
use Rattle.blockplan.specs.Parcel.{same}
use Rattle.blockplan.specs.Compare.{differing}

xor-none : (x y : ℕ) → bit_xor x y ≡ 0 → x ≡ y
xor-none x y e = sym (xor-cancel-r x y) ∙ ap (λ (z : ℕ). bit_xor z y) e

or-none : (d x y : ℕ) → eqb (bit_or d (bit_xor x y)) 0 ≡ (eqb d 0 && eqb x y)
or-none d x y = elim (ℕ_discrete d 0) [
  | yes p ↦ elim (ℕ_discrete x y) [
    | yes q ↦ rw (p, q, xor_self, eq-eqb y y refl)
    | no q ↦ rw (p, ne_eqb x y q) (ne_eqb (bit_xor x y) 0 (λ e. q (xor-none x y e)))
  ]
  | no p ↦ rw (ne_eqb d 0 p) (ne_eqb (bit_or d (bit_xor x y)) 0 (λ e. p (omega (arith, or_add_and d (bit_xor x y), and_le_r d (bit_xor x y)))))
]

same-snoc : (a b : List ℕ) (x y : ℕ) → length a ≡ length b → same (a ++ (x ∷ [])) (b ++ (y ∷ [])) ≡ (same a b && eqb x y)
unfolding same
same-snoc [] [] x y e = and-true (eqb x y)
same-snoc [] (c ∷ b) x y e = absurd (omega arith)
same-snoc (c ∷ a) [] x y e = absurd (omega arith)
same-snoc (c ∷ a) (d ∷ b) x y e = rw (same-snoc a b x y (omega arith)) (sym (and_assoc (eqb c d) (same a b) (eqb x y)))

-- no bit differs exactly where the first numbers agree
pub compared : (a b : List ℕ) (n : ℕ) → n ≤ length a → n ≤ length b → eqb (differing a b n) 0 ≡ same (take n a) (take n b)
unfolding differing same
compared a b zero ha hb = refl
compared a b (suc n) ha hb =
    or-none (differing a b n) (get_or a n 0) (get_or b n 0) ∙ ap (λ (t : Bool). t && eqb (get_or a n 0) (get_or b n 0)) (compared a b n (omega arith) (omega arith))
    ∙ sym (rw (take-suc a n 0 ha, take-suc b n 0 hb) (same-snoc (take n a) (take n b) (get_or a n 0) (get_or b n 0) (length-take-le n a (omega arith) ∙ sym (length-take-le n b (omega arith)))))

pub same_true : (a b : List ℕ) → same a b ≡ true → a ≡ b
unfolding same
same_true [] [] e = refl
same_true [] (y ∷ ys) e = absurd (false≢true e)
same_true (x ∷ xs) [] e = absurd (false≢true e)
same_true (x ∷ xs) (y ∷ ys) e = ap₂ (λ (a : ℕ) (l : List ℕ). a ∷ l) (eqb-true x y (both (eqb x y) (same xs ys) e).0) (same_true xs ys (both (eqb x y) (same xs ys) e).1)

pub same_refl : (a : List ℕ) → same a a ≡ true
unfolding same
same_refl [] = refl
same_refl (x ∷ xs) = rw (eq-eqb x x refl, same_refl xs)
