-- Laws of bytes that a mask keeps or clears, and of the mask made from the bits that differ. Assumes nothing.
use mathlib.Core.Path.{◌≡◌, refl, sym, ap, ◌∙◌}
use mathlib.Core.Bool.{Bool, true, false, cond}
use mathlib.Core.List.{List, ◌++◌, append-nil}
use Prim.Native.Nat.{ℕ, ◌+◌, ◌*◌, ◌-◌, ◌/◌, ◌%◌, ◌^◌, ◌≤◌, ◌<◌}
use native.Mathlib.Nat.{mod-lt, mod-eq_of_lt, zero-mul, zero-div}
use native.Mathlib.Omega.{arith}
use native.Mathlib.Decide.{ℕ_discrete}
use lib.Dec.{eqb, lit<}
use lib.Pow.{pow_pos, high, mod-pow-add}
use lib.Bits.{bit_or, bit_and, and_mask, and_zero_r, and_le_l, and_le_r, or_add_and, or_mod}
use borrow.Author.Tests.{eq-eqb, ne_eqb}
use lib.ListN.{length, get_or, take, drop, take-append-drop, drop_of_length-le}
use lib.Seq.{length-take-le}
use Rattle.words.specs.Sequence.{tab, zeros}
use Rattle.words.proofs.Xor.{Digit, off, on, digit}
use Rattle.words.proofs.Lists.{front}

-- byte j where it is kept, else zero
unfoldable pub kept_at : Bool → List ℕ → ℕ → ℕ
kept_at right s j = cond right (get_or s j 0) 0

-- all bits, or none, as a mask
pub masked : (right : Bool) (x : ℕ) → x < 256 → bit_and x (cond right 255 0) ≡ cond right x 0
masked true x h = and_mask x 8 ∙ mod-eq_of_lt h
masked false x h = and_zero_r x

-- a word or'ed with its own bits from k places up
unfoldable pub or_up : ℕ → ℕ → ℕ
or_up k x = bit_or x (x / 2 ^ k)

-- all bits or none, from the lowest bit once all others were or'ed into it
unfoldable pub mask_of : ℕ → ℕ
mask_of d = 255 * (1 - or_up 1 (or_up 2 (or_up 4 (or_up 8 (or_up 16 (or_up 32 d))))) % 2)

-- two tests for zero agree
zero-alike : (x y : ℕ) → (x ≡ 0 → y ≡ 0) → (y ≡ 0 → x ≡ 0) → eqb x 0 ≡ eqb y 0
zero-alike x y f g = elim (ℕ_discrete x 0) [
  | yes p ↦ eq-eqb x 0 p ∙ sym (eq-eqb y 0 (f p))
  | no q ↦ ne_eqb x 0 q ∙ sym (ne_eqb y 0 (λ e. q (g e)))
]

-- the low k bits, or'ed with the k above them, are zero where the low 2k bits are
halved : (k x : ℕ) → eqb (or_up k x % 2 ^ k) 0 ≡ eqb (x % 2 ^ (k + k)) 0
unfolding or_up
halved k x = rw (or_mod x (x / 2 ^ k) k, mod-pow-add x k k) (zero-alike (bit_or a b) (b * 2 ^ k + a) none_below none_above)
  where
    a : ℕ
    a = x % 2 ^ k

    b : ℕ
    b = x / 2 ^ k % 2 ^ k

    none_below : bit_or a b ≡ 0 → b * 2 ^ k + a ≡ 0
    none_below e =
        let p : a ≡ 0 = omega (arith, or_add_and a b, and_le_r a b) in
        let q : b ≡ 0 = omega (arith, or_add_and a b, and_le_l a b) in
        rw (p, q, zero-mul)

    none_above : b * 2 ^ k + a ≡ 0 → bit_or a b ≡ 0
    none_above e =
        let p : a ≡ 0 = omega arith in
        let q : b ≡ 0 = sym (high b k (mod-lt x (pow_pos k))) ∙ ap (λ (n : ℕ). n / 2 ^ k) e ∙ zero-div (2 ^ k) in
        rw (p, q)

-- the lowest bit of a word whose other bits were or'ed into it
pub lowest : (d : ℕ) → d < 2 ^ 64 → eqb (or_up 1 (or_up 2 (or_up 4 (or_up 8 (or_up 16 (or_up 32 d))))) % 2) 0 ≡ eqb d 0
lowest d h =
    halved 1 _ ∙ halved 2 _ ∙ halved 4 _ ∙ halved 8 _ ∙ halved 16 _ ∙ halved 32 d ∙ ap (λ (n : ℕ). eqb n 0) (mod-eq_of_lt h)

from-bit : (n : ℕ) → Digit n → 255 * (1 - n) ≡ cond (eqb n 0) 255 0
from-bit n off = refl
from-bit n on = refl

pub mask_is : (d : ℕ) → d < 2 ^ 64 → mask_of d ≡ cond (eqb d 0) 255 0
unfolding mask_of
mask_is d h =
    let n = or_up 1 (or_up 2 (or_up 4 (or_up 8 (or_up 16 (or_up 32 d))))) % 2 in
    from-bit n (digit n (mod-lt _ (lit< tt))) ∙ ap (λ (t : Bool). cond t 255 0) (lowest d h)

-- a list masked from its first byte to its last
kept-all : (right : Bool) (s : List ℕ) (n : ℕ) → n ≡ length s → tab (kept_at right s) n ++ drop n s ≡ cond right s (zeros n)
unfolding kept_at zeros
kept-all true s n e = ap (λ (l : List ℕ). l ++ drop n s) (sym (front s n (omega arith))) ∙ take-append-drop n s
kept-all false s n e = rw (drop_of_length-le s {i = n} (omega arith), append-nil)

-- the first n bytes of a list masked so, and what follows them
pub kept : (right : Bool) (n : ℕ) (s xs : List ℕ) (i : ℕ) → n ≤ length s → i ≡ n → xs ≡ tab (kept_at right (take n s)) i ++ drop i (take n s)
    → xs ++ drop n s ≡ cond right s (zeros n ++ drop n s)
kept right n s xs i h far e =
    ap (λ (l : List ℕ). l ++ drop n s) (e ∙ rw far (kept-all right (take n s) n (sym (length-take-le n s h)))) ∙ joined right
  where
    joined : (right : Bool) → cond right (take n s) (zeros n) ++ drop n s ≡ cond right s (zeros n ++ drop n s)
    joined true = take-append-drop n s
    joined false = refl
