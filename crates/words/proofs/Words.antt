-- Laws of 64-bit words: sums and differences that wrap, rotations and shifts. Assumes nothing.
use mathlib.Core.Path.{◌≡◌, sym, ap, ap₂, ◌∙◌, subst}
use Prim.Native.Nat.{ℕ, ◌+◌, ◌-◌, ◌*◌, ◌/◌, ◌%◌, ◌^◌, ◌<◌}
use native.Mathlib.Nat.{add_comm, add-zero, mod-lt, mul-mod_left}
use native.Mathlib.Omega.{arith}
use lib.Pow.{pow_pos, pow-add, high, low, split, shr_lt, shl-shr, mod-pow-add}
use lib.Arith.{digits_lt}
use lib.Bits.{bit_or, bit_xor, or_shifted_r, xor_block, xor_shr, xor_mod}
use Rattle.words.specs.Word.{add_w, sub_w, rot_r, shl}

-- ---- sums and differences that wrap

pub add_w-lt : (x y : ℕ) → add_w x y < 2 ^ 64
unfolding add_w
add_w-lt x y = mod-lt (x + y) (pow_pos 64)

pub sub_w-lt : (x y : ℕ) → sub_w x y < 2 ^ 64
unfolding sub_w
sub_w-lt x y = mod-lt (x + (2 ^ 64 - y)) (pow_pos 64)

pub sub_w-add_w : (x y : ℕ) → x < 2 ^ 64 → y < 2 ^ 64 → sub_w (add_w x y) y ≡ x
unfolding add_w sub_w
sub_w-add_w x y hx hy = omega arith

pub add_w-sub_w : (x y : ℕ) → x < 2 ^ 64 → y < 2 ^ 64 → add_w (sub_w x y) y ≡ x
unfolding add_w sub_w
add_w-sub_w x y hx hy = omega arith

-- ---- rotations

module _ (j k : ℕ) (e : j + k ≡ 64) where
  other : 64 - j ≡ k
  other = omega arith

  whole : 2 ^ 64 ≡ 2 ^ j * 2 ^ k
  whole = ap (λ (n : ℕ). 2 ^ n) (sym e) ∙ pow-add 2 j k

  -- a rotation by j as a quotient and a remainder
  pub rot_r-is : (x : ℕ) → rot_r j x ≡ (x % 2 ^ j) * 2 ^ k + x / 2 ^ j
  unfolding rot_r
  rot_r-is x = rw other

  -- what a shift left keeps of a word
  pub kept : (x : ℕ) → x * 2 ^ k % 2 ^ 64 ≡ (x % 2 ^ j) * 2 ^ k
  kept x =
      ap (λ (n : ℕ). x * 2 ^ k % 2 ^ n) (sym e) ∙ mod-pow-add (x * 2 ^ k) j k
      ∙ rw (shl-shr x k, mul-mod_left x (2 ^ k), add-zero)

  top_lt : (x : ℕ) → x < 2 ^ 64 → x / 2 ^ j < 2 ^ k
  top_lt x h = shr_lt k j (subst (λ (n : ℕ). x < 2 ^ n) (sym (add_comm k j ∙ e)) h)

  -- a rotation as the machine has it
  pub machine : (x : ℕ) → x < 2 ^ 64 → bit_or (x / 2 ^ j) (x * 2 ^ k % 2 ^ 64) ≡ rot_r j x
  machine x h = rw (kept x, rot_r-is x) (or_shifted_r (x % 2 ^ j) k (x / 2 ^ j) (top_lt x h))

  pub rot_r-lt : (x : ℕ) → x < 2 ^ 64 → rot_r j x < 2 ^ 64
  rot_r-lt x h = rw (rot_r-is x, whole) (digits_lt (mod-lt x (pow_pos j)) (top_lt x h))

  -- a rotation keeps exclusive or
  pub rot_r-xor : (x y : ℕ) → x < 2 ^ 64 → y < 2 ^ 64 → rot_r j (bit_xor x y) ≡ bit_xor (rot_r j x) (rot_r j y)
  rot_r-xor x y hx hy =
      rw (rot_r-is (bit_xor x y), rot_r-is x, rot_r-is y, xor_mod, xor_shr) (sym (xor_block k (x % 2 ^ j) (y % 2 ^ j) (x / 2 ^ j) (y / 2 ^ j) (top_lt x hx) (top_lt y hy)))

-- rotating on by k undoes rotating by j, where the two make a whole turn
pub rot_r-back : (j k : ℕ) → j + k ≡ 64 → (x : ℕ) → x < 2 ^ 64 → rot_r k (rot_r j x) ≡ x
rot_r-back j k e x h =
    rot_r-is k j (add_comm k j ∙ e) (rot_r j x)
    ∙ ap (λ (y : ℕ). (y % 2 ^ k) * 2 ^ j + y / 2 ^ k) (rot_r-is j k e x)
    ∙ ap₂ (λ (a b : ℕ). a * 2 ^ j + b) (low (x % 2 ^ j) k (top_lt j k e x h)) (high (x % 2 ^ j) k (top_lt j k e x h))
    ∙ split x j

-- ---- shifts

scaled : (n x y : ℕ) → bit_xor x y * 2 ^ n ≡ bit_xor (x * 2 ^ n) (y * 2 ^ n)
scaled n x y =
    sym (add-zero (bit_xor x y * 2 ^ n)) ∙ sym (xor_block n x y 0 0 (pow_pos n) (pow_pos n))
    ∙ ap₂ (λ (a b : ℕ). bit_xor a b) (add-zero (x * 2 ^ n)) (add-zero (y * 2 ^ n))

pub shl-xor : (n x y : ℕ) → shl n (bit_xor x y) ≡ bit_xor (shl n x) (shl n y)
unfolding shl
shl-xor n x y = ap (λ (z : ℕ). z % 2 ^ 64) (scaled n x y) ∙ xor_mod (x * 2 ^ n) (y * 2 ^ n) 64

pub shl_lt : (n x : ℕ) → shl n x < 2 ^ 64
unfolding shl
shl_lt n x = mod-lt (x * 2 ^ n) (pow_pos 64)
