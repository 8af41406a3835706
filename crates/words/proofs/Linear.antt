-- Maps on numbers of n bits that keep exclusive or: two of them that agree at each 2^j are equal. Rotations and shifts are such maps.
-- Assumes nothing.
use mathlib.Core.Path.{◌≡◌, refl, sym, ap, ap₂, ◌∙◌, subst}
use Prim.Native.Nat.{ℕ, zero, suc, ◌+◌, ◌-◌, ◌*◌, ◌/◌, ◌%◌, ◌^◌, ◌≤◌, ◌<◌}
use native.Mathlib.Nat.{add_comm, zero-add, mod-lt, one-mul, zero-mul}
use native.Mathlib.Numerals.{add-one}
use native.Mathlib.Omega.{arith}
use lib.Pow.{pow_pos, pow-lt, split, shr_lt, high, low}
use lib.Arith.{digits_lt}
use lib.Bits.{bit_xor, xor_lt, xor_self, xor_shifted, xor_shr, xor_mod, xor_block}
use Rattle.words.specs.Word.{rot_l, shl}
use Rattle.words.proofs.Xor.{Digit, off, on, digit, xor-swap}
use Rattle.words.proofs.Words.{rot_r-lt, rot_r-xor, shl_lt, shl-xor}

-- f keeps exclusive or of numbers of n bits
pub record LinearOn (n : ℕ) (f : ℕ → ℕ) : Type 0 where
  pub keeps : (x y : ℕ) → x < 2 ^ n → y < 2 ^ n → f (bit_xor x y) ≡ bit_xor (f x) (f y)

-- zero is kept
pub zero-kept : (n : ℕ) (f : ℕ → ℕ) → LinearOn n f → f 0 ≡ 0
zero-kept n f k = k.keeps 0 0 (pow_pos n) (pow_pos n) ∙ xor_self (f 0)

module _ (n : ℕ) (f g : ℕ → ℕ) (kf : LinearOn n f) (kg : LinearOn n g) (h : (j : ℕ) → j < n → f (2 ^ j) ≡ g (2 ^ j)) where
  -- the top bit and the rest
  one_more : (m d r : ℕ) → m < n → r < 2 ^ m → Digit d → f r ≡ g r → f (d * 2 ^ m + r) ≡ g (d * 2 ^ m + r)
  one_more m d r hm hr off e = rw (zero-mul (2 ^ m), zero-add r) e
  one_more m d r hm hr on e =
      let top : 2 ^ m < 2 ^ n = pow-lt hm in
      let rest : r < 2 ^ n = omega arith in
      let both : bit_xor (1 * 2 ^ m) r ≡ 1 * 2 ^ m + r = xor_shifted 1 m r hr in
      rw (← both, one-mul) (kf.keeps (2 ^ m) r top rest ∙ ap₂ bit_xor (h m hm) e ∙ sym (kg.keeps (2 ^ m) r top rest))

  up_to : (m : ℕ) → m ≤ n → (x : ℕ) → x < 2 ^ m → f x ≡ g x
  up_to zero hm x hx =
      let e : x ≡ 0 = omega arith in
      rw e (zero-kept n f kf ∙ sym (zero-kept n g kg))
  up_to (suc m) hm x hx =
      rw (← (split x m))
      (one_more m (x / 2 ^ m) (x % 2 ^ m) hm (mod-lt x (pow_pos m)) (digit (x / 2 ^ m) (shr_lt 1 m (subst (λ (k : ℕ). x < 2 ^ k) (sym (add_comm 1 m ∙ add-one m)) hx))) (up_to m (omega arith) (x % 2 ^ m) (mod-lt x (pow_pos m))))

  pub agree : (x : ℕ) → x < 2 ^ n → f x ≡ g x
  agree = up_to n (omega arith)

-- ---- maps of one word, and of two words

pub record OnWord (f : ℕ → ℕ) : Type 0 where
  pub fits : (x : ℕ) → x < 2 ^ 64 → f x < 2 ^ 64
  pub keeps : (x y : ℕ) → x < 2 ^ 64 → y < 2 ^ 64 → f (bit_xor x y) ≡ bit_xor (f x) (f y)

pub record OnPair (f : ℕ → ℕ → ℕ) : Type 0 where
  pub fits : (x y : ℕ) → x < 2 ^ 64 → y < 2 ^ 64 → f x y < 2 ^ 64
  pub keeps : (x y z w : ℕ) → x < 2 ^ 64 → y < 2 ^ 64 → z < 2 ^ 64 → w < 2 ^ 64 → f (bit_xor x z) (bit_xor y w) ≡ bit_xor (f x y) (f z w)

pub word-id : OnWord (λ x. x)
word-id = record { fits = λ x h. h; keeps = λ x y hx hy. refl }

pub word-xor : (f g : ℕ → ℕ) → OnWord f → OnWord g → OnWord (λ x. bit_xor (f x) (g x))
word-xor f g kf kg = record {
  fits = λ x h. xor_lt 64 (f x) (g x) (kf.fits x h) (kg.fits x h);
  keeps = λ x y hx hy. ap₂ bit_xor (kf.keeps x y hx hy) (kg.keeps x y hx hy) ∙ xor-swap (f x) (f y) (g x) (g y);
}

pub word_after : (f g : ℕ → ℕ) → OnWord f → OnWord g → OnWord (λ x. f (g x))
word_after f g kf kg = record {
  fits = λ x h. kf.fits (g x) (kg.fits x h);
  keeps = λ x y hx hy. ap f (kg.keeps x y hx hy) ∙ kf.keeps (g x) (g y) (kg.fits x hx) (kg.fits y hy);
}

pub word-rot_l : (n : ℕ) → n < 64 → OnWord (rot_l n)
unfolding rot_l
word-rot_l n h = record { fits = rot_r-lt (64 - n) n (omega arith); keeps = rot_r-xor (64 - n) n (omega arith) }

pub word_shl : (n : ℕ) → OnWord (shl n)
word_shl n = record { fits = λ x h. shl_lt n x; keeps = λ x y hx hy. shl-xor n x y }

-- a map of the first word, xor a map of the second
pub pair-xor : (f g : ℕ → ℕ) → OnWord f → OnWord g → OnPair (λ x y. bit_xor (f x) (g y))
pair-xor f g kf kg = record {
  fits = λ x y hx hy. xor_lt 64 (f x) (g y) (kf.fits x hx) (kg.fits y hy);
  keeps = λ x y z w hx hy hz hw. ap₂ bit_xor (kf.keeps x z hx hz) (kg.keeps y w hy hw) ∙ xor-swap (f x) (f z) (g y) (g w);
}

pub pair-after : (f g h : ℕ → ℕ → ℕ) → OnPair f → OnPair g → OnPair h → OnPair (λ x y. f (g x y) (h x y))
pair-after f g h kf kg kh = record {
  fits = λ x y hx hy. kf.fits (g x y) (h x y) (kg.fits x y hx hy) (kh.fits x y hx hy);
  keeps = λ x y z w hx hy hz hw.
      ap₂ f (kg.keeps x y z w hx hy hz hw) (kh.keeps x y z w hx hy hz hw)
      ∙ kf.keeps (g x y) (h x y) (g z w) (h z w) (kg.fits x y hx hy) (kh.fits x y hx hy) (kg.fits z w hz hw) (kh.fits z w hz hw);
}

-- a map of one word that keeps each bit is the identity
pub word_same : (f : ℕ → ℕ) → OnWord f → ((j : ℕ) → j < 64 → f (2 ^ j) ≡ 2 ^ j) → (x : ℕ) → x < 2 ^ 64 → f x ≡ x
word_same f kf = agree 64 f (λ x. x) (record { keeps = kf.keeps }) (record { keeps = word-id.keeps })

-- two words as one number of 128 bits, the second the higher
unfoldable pub joined : ℕ → ℕ → ℕ
joined x y = y * 2 ^ 64 + x

-- a pair of maps as a map of such numbers
unfoldable pub on_joined : (ℕ → ℕ → ℕ) → (ℕ → ℕ → ℕ) → ℕ → ℕ
on_joined f g z = joined (f (z % 2 ^ 64) (z / 2 ^ 64)) (g (z % 2 ^ 64) (z / 2 ^ 64))

module _ (f g : ℕ → ℕ → ℕ) (kf : OnPair f) (kg : OnPair g) where
  keeps-joined : LinearOn 128 (on_joined f g)
  unfolding on_joined joined
  keeps-joined = record {
    keeps = λ u v hu hv.
        let pu : u / 2 ^ 64 < 2 ^ 64 = shr_lt 64 64 hu in
        let pv : v / 2 ^ 64 < 2 ^ 64 = shr_lt 64 64 hv in
        let qu : u % 2 ^ 64 < 2 ^ 64 = mod-lt u (pow_pos 64) in
        let qv : v % 2 ^ 64 < 2 ^ 64 = mod-lt v (pow_pos 64) in
        ap₂ (λ (a b : ℕ). joined (f a b) (g a b)) (xor_mod u v 64) (xor_shr u v 64)
        ∙ ap₂ joined (kf.keeps (u % 2 ^ 64) (u / 2 ^ 64) (v % 2 ^ 64) (v / 2 ^ 64) qu pu qv pv)
        (kg.keeps (u % 2 ^ 64) (u / 2 ^ 64) (v % 2 ^ 64) (v / 2 ^ 64) qu pu qv pv)
        ∙ sym
        (xor_block 64 (g (u % 2 ^ 64) (u / 2 ^ 64)) (g (v % 2 ^ 64) (v / 2 ^ 64)) (f (u % 2 ^ 64) (u / 2 ^ 64)) (f (v % 2 ^ 64) (v / 2 ^ 64))
        (kf.fits (u % 2 ^ 64) (u / 2 ^ 64) qu pu) (kf.fits (v % 2 ^ 64) (v / 2 ^ 64) qv pv));
  }

  -- a pair of maps that keeps each bit is the identity
  pub pair_same : ((k : ℕ) → k < 128 → on_joined f g (2 ^ k) ≡ 2 ^ k) → (x y : ℕ) → x < 2 ^ 64 → y < 2 ^ 64 → (f x y ≡ x) × (g x y ≡ y)
  unfolding on_joined joined
  pair_same t x y hx hy =
      let e : on_joined f g (joined x y) ≡ joined x y = agree 128 (on_joined f g) (λ z. z) keeps-joined (record { keeps = λ u v hu hv. refl }) t (joined x y) (digits_lt hy hx) in
      let d : joined (f x y) (g x y) ≡ joined x y = ap₂ (λ (a b : ℕ). joined (f a b) (g a b)) (sym (low y 64 hx)) (sym (high y 64 hx)) ∙ e in
      let fit : f x y < 2 ^ 64 = kf.fits x y hx hy in (
        sym (low (g x y) 64 fit) ∙ ap (λ (z : ℕ). z % 2 ^ 64) d ∙ low y 64 hx,
        sym (high (g x y) 64 fit) ∙ ap (λ (z : ℕ). z / 2 ^ 64) d ∙ high y 64 hx,
      )
