-- One bit of a word set, and what that does to the others. Assumes nothing.
use mathlib.Core.Path.{◌≡◌, refl, sym, ap, ◌∙◌}
use mathlib.Core.Bool.{cond, true, false}
use mathlib.Core.List.{List, [], ◌∷◌, ◌++◌}
use Prim.Native.Nat.{ℕ, zero, suc, ◌+◌, ◌*◌, ◌/◌, ◌%◌, ◌^◌, ◌<◌, ◌-◌, ◌≤◌}
use native.Mathlib.Nat.{pow-succ', div-div-eq-div-mul, mod-eq_of_lt, one-mul}
use native.Mathlib.Omega.{arith}
use native.Mathlib.Decide.{ℕ_discrete}
use lib.Dec.{eqb, eqb-zero-suc, eqb-suc-zero, eqb-suc-suc}
use lib.ListN.{length, get_or, length-set}
use lib.Seq.{get_or-set_same, get_or-set_other}
use borrow.Author.Tests.{eq-eqb, ne_eqb, eqb-true, eqb-false, not-true, not-false}
use Rattle.words.proofs.Truth.{all_below, carried}
use Rattle.chains.specs.Marks.{bit_at, marked, is_marked, unmarked, bits, Marks, Unreached}
use Rattle.cells.proofs.Counts.{count-last}

halved : (x k : ℕ) → x / 2 ^ suc k ≡ x / 2 / 2 ^ k
halved x k = rw pow-succ' (sym (div-div-eq-div-mul x 2 (2 ^ k)))

-- 2^j more where that bit is 0
pub bit-more : (i j x : ℕ) → x / 2 ^ j % 2 ≡ 0 → (x + 2 ^ j) / 2 ^ i % 2 ≡ x / 2 ^ i % 2 + cond (eqb i j) 1 0
bit-more zero zero x h = omega arith
bit-more zero (suc j) x h = rw (eqb-zero-suc j, pow-succ') (omega arith)
bit-more (suc i) zero x h =
    let e : (x + 2 ^ 0) / 2 ≡ x / 2 = omega arith in
    rw (eqb-suc-zero i, halved (x + 2 ^ 0) i, halved x i, e) (omega arith)
bit-more (suc i) (suc j) x h =
    let e : (x + 2 ^ suc j) / 2 ≡ x / 2 + 2 ^ j = rw pow-succ' (omega arith) in
    rw (eqb-suc-suc i j, halved (x + 2 ^ suc j) i, halved x i, e) (bit-more i j (x / 2) (rw halved at h))

-- and it still fits
pub bit-fits : (k j x : ℕ) → j < k → x < 2 ^ k → x / 2 ^ j % 2 ≡ 0 → x + 2 ^ j < 2 ^ k
bit-fits zero j x l b h = absurd (omega arith)
bit-fits (suc k) zero x l b h = let e = pow-succ' 2 k in omega arith
bit-fits (suc k) (suc j) x l b h =
    let e = pow-succ' 2 k in
    let f = pow-succ' 2 j in
    let g : x / 2 + 2 ^ j < 2 ^ k = bit-fits k j (x / 2) (omega arith) (omega arith) (rw halved at h) in
    omega arith

-- as the code has it
pub powered : (j : ℕ) → j < 64 → 1 * 2 ^ j % 18446744073709551616 ≡ 2 ^ j
powered j h = let l : 2 ^ j < 18446744073709551616 = omega (arith, bit-fits 64 j 0 h (omega arith) (zeroed j)) in rw one-mul (mod-eq_of_lt l) where
  zeroed : (i : ℕ) → 0 / 2 ^ i % 2 ≡ 0
  zeroed zero = omega arith
  zeroed (suc i) = rw halved (zeroed i)

same_test : (a b : ℕ) → eqb a b ≡ eqb b a
same_test a b = elim (ℕ_discrete a b) [ yes e ↦ rw e | no n ↦ ne_eqb a b n ∙ sym (ne_eqb b a (λ e. n (sym e))) ]

-- one more mark
pub bit-marked : (m : List ℕ) (c k : ℕ) → c < 64 * length m → bit_at m c ≡ 0 → bit_at (marked m c) k ≡ bit_at m k + cond (eqb k c) 1 0
unfolding bit_at marked
bit-marked m c k l h = elim (ℕ_discrete (k / 64) (c / 64)) [
  | yes p ↦ rw (p, get_or-set_same m (c / 64) (get_or m (c / 64) 0 + 2 ^ (c % 64)) 0 (omega arith), bit-more (k % 64) (c % 64) (get_or m (c / 64) 0) h) (ap (λ (t : ℕ). get_or m (c / 64) 0 / 2 ^ (k % 64) % 2 + t) (same p))
  | no q ↦ rw (get_or-set_other m (c / 64) (k / 64) (get_or m (c / 64) 0 + 2 ^ (c % 64)) 0 q, ne_eqb k c (λ e. q (ap (λ (t : ℕ). t / 64) e))) (omega arith)
] where
  same : k / 64 ≡ c / 64 → ◌≡◌ {A = ℕ} (cond (eqb (k % 64) (c % 64)) 1 0) (cond (eqb k c) 1 0)
  same p = elim (ℕ_discrete k c) [
    | yes e ↦ rw (eq-eqb k c e, eq-eqb (k % 64) (c % 64) (ap (λ (t : ℕ). t % 64) e))
    | no n ↦ rw (ne_eqb k c n, ne_eqb (k % 64) (c % 64) (λ e. n (omega arith)))
  ]

pub marks-more : (m reached : List ℕ) (c : ℕ) → c < 64 * length m → bit_at m c ≡ 0 → Marks m reached → Marks (marked m c) (reached ++ (c ∷ []))
marks-more m reached c l h g = record { each = λ k. bit-marked m c k l h ∙ rw (g.each k, same_test k c) (sym (count-last k reached c)) }

-- a mark as the code tests it
pub bit-none : (m : List ℕ) (c : ℕ) → is_marked m c ≡ false → bit_at m c ≡ 0
unfolding is_marked
bit-none m c e = eqb-true (bit_at m c) 0 (not-false _ e)

pub bit-some : (m : List ℕ) (c : ℕ) → is_marked m c ≡ true → bit_at m c ≡ 0 → ⊥
unfolding is_marked
bit-some m c e = eqb-false (bit_at m c) 0 (not-true _ e)

-- ---- words of marks

-- each bit of the full word is 1, and of the one below each but the first
ones : (k : ℕ) → k < 64 → 18446744073709551615 / 2 ^ k % 2 ≡ 1
ones k h = eqb-true _ 1 (carried (λ k. eqb (18446744073709551615 / 2 ^ k % 2) 1) 64 (unfold all_below in refl) k h)

ones-but-first : (k : ℕ) → k < 63 → 18446744073709551614 / 2 ^ suc k % 2 ≡ 1
ones-but-first k h = eqb-true _ 1 (carried (λ k. eqb (18446744073709551614 / 2 ^ suc k % 2) 1) 63 (unfold all_below in refl) k h)

pub bit-marks : (m : List ℕ) (i : ℕ) → bit_at m i ≡ 1 → unmarked m i ≡ false
unfolding unmarked is_marked
bit-marks m i e = rw e

pub full-word : (m : List ℕ) (j i : ℕ) → get_or m j 0 ≡ 18446744073709551615 → 64 * j ≤ i → i < 64 * j + 64 → unmarked m i ≡ false
unfolding bit_at
full-word m j i e a b =
    let q : i / 64 ≡ j = omega arith in
    bit-marks m i (rw (q, e) (ones (i % 64) (omega arith)))

pub first_word : (m : List ℕ) (i : ℕ) → get_or m 0 0 ≡ 18446744073709551614 → 1 ≤ i → i < 64 → unmarked m i ≡ false
unfolding bit_at
first_word m i e a b =
    let q : i / 64 ≡ 0 = omega arith in
    let r : i % 64 ≡ suc (i - 1) = omega arith in
    bit-marks m i (rw (q, e, r) (ones-but-first (i - 1) (omega arith)))

-- ---- how many

bit-most : (m : List ℕ) (k : ℕ) → bit_at m k ≤ 1
unfolding bit_at
bit-most m k = omega arith

bits_most : (m : List ℕ) (n : ℕ) → bits m n ≤ n
unfolding bits
bits_most m zero = omega arith
bits_most m (suc n) = omega (arith, bits_most m n, bit-most m n)

pub bits_none : (m : List ℕ) (n : ℕ) → ((k : ℕ) → bit_at m k ≡ 0) → bits m n ≡ 0
unfolding bits
bits_none m zero h = refl
bits_none m (suc n) h = rw (bits_none m n h, h n)

-- no change below c
bits-past : (m : List ℕ) (c n : ℕ) → c < 64 * length m → bit_at m c ≡ 0 → n ≤ c → bits (marked m c) n ≡ bits m n
unfolding bits
bits-past m c zero l h k = refl
bits-past m c (suc n) l h k = rw (bits-past m c n l h (omega arith), bit-marked m c n l h, ne_eqb n c (λ e. omega arith)) (omega arith)

pub bits-marked : (m : List ℕ) (c n : ℕ) → c < 64 * length m → bit_at m c ≡ 0 → c < n → bits (marked m c) n ≡ bits m n + 1
unfolding bits
bits-marked m c zero l h k = absurd (omega arith)
bits-marked m c (suc n) l h k = elim (ℕ_discrete n c) [
  | yes e ↦ rw (e, bits-past m c c l h (omega arith), bit-marked m c c l h, eq-eqb c c refl) (omega arith)
  | no q ↦ rw (bits-marked m c n l h (omega (arith, q)), bit-marked m c n l h, ne_eqb n c q) (omega arith)
]

pub length_marked : (m : List ℕ) (c : ℕ) → length (marked m c) ≡ length m
unfolding marked
length_marked m c = length-set m (c / 64) _

-- a cell that is not marked, beside cell 0, has room
pub unreached-one : (m : List ℕ) (c n left : ℕ) → n ≤ 64 * length m → Unreached n m left → (c ≡ 0 → ⊥) → c < n → bit_at m c ≡ 0 → 1 ≤ left
unreached-one m c n left l r z k h =
    let e = bits-marked m c n (omega arith) h k in
    let f = bits-marked (marked m c) 0 n (omega (arith, length_marked m c)) (bit-marked m c 0 (omega arith) h ∙ rw (ne_eqb 0 c (λ e. z (sym e)), r.head)) (omega arith) in
    omega (arith, bits_most (marked (marked m c) 0) n, r.many)

pub unreached-less : (m k : List ℕ) (c n left : ℕ) → n ≤ 64 * length m → Unreached n m left → (c ≡ 0 → ⊥) → c < n → bit_at m c ≡ 0 → k ≡ marked m c → Unreached n k (left - 1)
unreached-less m k c n left l r z a h e =
    let p = unreached-one m c n left l r z a h in
    let f = bits-marked m c n (omega arith) h a in
    rw e (record { head = bit-marked m c 0 (omega arith) h ∙ rw (ne_eqb 0 c (λ e. z (sym e)), r.head); many = omega (arith, r.many) })

-- where there is no room, each cell but 0 is marked
pub unreached-none : (m : List ℕ) (n : ℕ) → n ≤ 64 * length m → Unreached n m 0 → (c : ℕ) → 1 ≤ c → c < n → unmarked m c ≡ false
unreached-none m n l r c a b = elim (ℕ_discrete (bit_at m c) 0) [
  | yes h ↦ absurd (omega (arith, unreached-one m c n 0 l r (λ e. omega arith) b h))
  | no q ↦ bit-marks m c (omega (arith, q, bit-most m c))
]
