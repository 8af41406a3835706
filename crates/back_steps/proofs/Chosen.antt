-- The words of a table that the bits of a number choose: the choice keeps exclusive or, and one bit alone chooses its row.
-- Assumes nothing.
use mathlib.Core.Path.{◌≡◌, refl, sym, ap, ap₂, ◌∙◌}
use mathlib.Core.Bool.{true}
use mathlib.Core.List.{List}
use Prim.Native.Nat.{ℕ, zero, suc, ◌+◌, ◌-◌, ◌*◌, ◌/◌, ◌%◌, ◌^◌, ◌≤◌, ◌<◌}
use native.Mathlib.Nat.{mod-lt, mul-one, mul-zero, pow-suc, mul-mod_left, div_self, div-eq_of_lt}
use native.Mathlib.Omega.{arith}
use native.Mathlib.Decide.{dec_lt}
use lib.Dec.{eqb, lit<}
use lib.ListN.{length, get_or, get_or-eq_default}
use lib.Pow.{pow_pos, pow-lt, pow-add, shl-shr}
use lib.Bits.{bit_xor, xor_lt, xor_self, xor_zero_r, xor_shr, xor_mod}
use Rattle.words.proofs.Truth.{all_below, equal-below}
use Rattle.words.proofs.Xor.{Digit, off, on, digit, xor-swap}
use Rattle.words.proofs.Linear.{OnWord, zero-kept}
use Rattle.back_steps.specs.BackSteps.{chosen}

-- ---- a word times a bit

pub times-fits : (w d m : ℕ) → w < m → 0 < m → Digit d → w * d < m
times-fits w d m h z off = rw mul-zero z
times-fits w d m h z on = rw mul-one h

times-xor : (w a b : ℕ) → Digit a → Digit b → w * bit_xor a b ≡ bit_xor (w * a) (w * b)
times-xor w a b off off = rw mul-zero
times-xor w a b off on = rw (mul-zero, mul-one)
times-xor w a b on off = rw (mul-zero, mul-one) (sym (xor_zero_r w))
times-xor w a b on on = rw (mul-zero, mul-one) (sym (xor_self w))

-- ---- the bits of 2^j

pub bit : (e n : ℕ) → Digit (e / 2 ^ n % 2)
bit e n = digit (e / 2 ^ n % 2) (mod-lt (e / 2 ^ n) (lit< tt))

bit-on : (j : ℕ) → 2 ^ j / 2 ^ j % 2 ≡ 1
bit-on j = rw (div_self (pow_pos j))

bit-above : (j n : ℕ) → j < n → 2 ^ j / 2 ^ n % 2 ≡ 0
bit-above j n h = rw (div-eq_of_lt (pow-lt h))

bit_below : (j n : ℕ) → n < j → 2 ^ j / 2 ^ n % 2 ≡ 0
bit_below j n h =
    let d = j - suc n in
    let e : suc d + n ≡ j = omega arith in
    ap (λ (k : ℕ). 2 ^ k / 2 ^ n % 2) (sym e) ∙ ap (λ (k : ℕ). k / 2 ^ n % 2) (pow-add 2 (suc d) n)
    ∙ ap (λ (k : ℕ). k % 2) (shl-shr (2 ^ suc d) n ∙ pow-suc 2 d) ∙ mul-mod_left (2 ^ d) 2

-- ---- the words that the bits choose

module _ (t : List ℕ) (small : (i : ℕ) → get_or t i 0 < 2 ^ 64) (at step : ℕ) where
  chosen-fits : (n e : ℕ) → chosen t at step e n < 2 ^ 64
  unfolding chosen
  chosen-fits zero e = pow_pos 64
  chosen-fits (suc n) e =
      xor_lt 64 (get_or t (at + step * n) 0 * (e / 2 ^ n % 2)) (chosen t at step e n)
      (times-fits (get_or t (at + step * n) 0) (e / 2 ^ n % 2) (2 ^ 64) (small (at + step * n)) (pow_pos 64) (bit e n)) (chosen-fits n e)

  chosen-keeps : (n x y : ℕ) → chosen t at step (bit_xor x y) n ≡ bit_xor (chosen t at step x n) (chosen t at step y n)
  unfolding chosen
  chosen-keeps zero x y = refl
  chosen-keeps (suc n) x y =
      let w = get_or t (at + step * n) 0 in
      ap₂ bit_xor
      (ap (λ (k : ℕ). w * (k % 2)) (xor_shr x y n) ∙ ap (λ (k : ℕ). w * k) (xor_mod (x / 2 ^ n) (y / 2 ^ n) 1)
      ∙ times-xor w (x / 2 ^ n % 2) (y / 2 ^ n % 2) (bit x n) (bit y n))
      (chosen-keeps n x y)
      ∙ xor-swap (w * (x / 2 ^ n % 2)) (w * (y / 2 ^ n % 2)) (chosen t at step x n) (chosen t at step y n)

  pub word-chosen : (n : ℕ) → OnWord (λ e. chosen t at step e n)
  word-chosen n = record { fits = λ e h. chosen-fits n e; keeps = λ x y hx hy. chosen-keeps n x y }

  pub chosen-zero : (n : ℕ) → chosen t at step 0 n ≡ 0
  chosen-zero n = zero-kept 64 (λ e. chosen t at step e n) (record { keeps = (word-chosen n).keeps })

  below : (j n : ℕ) → n ≤ j → chosen t at step (2 ^ j) n ≡ 0
  unfolding chosen
  below j zero h = refl
  below j (suc n) h = rw (bit_below j n h, below j n (omega arith), mul-zero)

  -- one bit alone chooses its row
  pub chosen-unit : (j n : ℕ) → j < n → chosen t at step (2 ^ j) n ≡ get_or t (at + step * j) 0
  unfolding chosen
  chosen-unit j zero h = absurd (omega arith)
  chosen-unit j (suc n) h = elim (dec_lt j n) [
    | yes p ↦ rw (bit-above j n p, chosen-unit j n p, mul-zero)
    | no q ↦ let e : j ≡ n = omega arith in
        rw (e, bit-on n, below j n (omega arith), mul-one) (xor_zero_r (get_or t (at + step * n) 0))
  ]

-- ---- the words of a table

-- they are below 2^64: one test, carried to each
pub small-words : (t : List ℕ) → all_below (λ i. eqb (get_or t i 0 / 2 ^ 64) 0) (length t) ≡ true → (i : ℕ) → get_or t i 0 < 2 ^ 64
small-words t p i = elim (dec_lt i (length t)) [
  | yes h ↦ let e : get_or t i 0 / 2 ^ 64 ≡ 0 = equal-below (λ i. get_or t i 0 / 2 ^ 64) (λ i. 0) (length t) p i h in omega arith
  | no q ↦ rw (get_or-eq_default t 0 {n = i} (omega arith)) (pow_pos 64)
]
