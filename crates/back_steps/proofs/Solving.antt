-- The tables solve for the back steps: the rule of each is one test over the whole table, and it is carried to each row.
-- Assumes nothing.
use mathlib.Core.Path.{◌≡◌, refl, sym, ap, ap₂, ◌∙◌}
use Prim.Native.Nat.{ℕ, ◌+◌, ◌-◌, ◌*◌, ◌/◌, ◌%◌, ◌^◌, ◌<◌}
use native.Mathlib.Nat.{mul-mod_left, mod-eq_of_lt, div-eq_of_lt}
use native.Mathlib.Omega.{arith}
use native.Mathlib.Decide.{dec_lt}
use lib.Dec.{lit<}
use lib.ListN.{get_or}
use lib.Pow.{pow-lt, pow-add, shl-shr}
use lib.Bits.{bit_xor, xor_zero_r}
use Rattle.words.specs.Word.{rot_r, rot_l, shl}
use Rattle.words.proofs.Truth.{all_below, equal-below}
use Rattle.words.proofs.Linear.{OnWord, OnPair, joined, on_joined, word-id, word-xor, word_after, word-rot_l, word_shl, word_same, pair-xor, pair-after, pair_same}
use Rattle.back_steps.specs.Tables.{beta_table, gamma_table}
use Rattle.back_steps.specs.BackSteps.{chosen, beta_word, gamma_word}
use Rattle.back_steps.proofs.Chosen.{word-chosen, chosen-zero, chosen-unit, small-words}

-- the two maps that alpha's new word is made of
rotated : OnWord (rot_l 53)
rotated = word-rot_l 53 (lit< tt)

shifted : OnWord (shl 13)
shifted = word_shl 13

-- ---- backward beta: one word

-- what the first word solves
unfoldable pub beta_on : ℕ → ℕ
beta_on x = bit_xor (bit_xor (rot_l 53 x) (shl 13 x)) x

word-beta_on : OnWord beta_on
unfolding beta_on
word-beta_on = word-xor (λ x. bit_xor (rot_l 53 x) (shl 13 x)) (λ x. x) (word-xor (rot_l 53) (shl 13) rotated shifted) word-id

beta-small : (i : ℕ) → get_or beta_table i 0 < 2 ^ 64
unfolding beta_table all_below
beta-small = small-words beta_table refl

pub word-beta_word : OnWord beta_word
unfolding beta_word
word-beta_word = word-chosen beta_table beta-small 0 1 64

-- the rule of the table: row k solves for the k-th bit
pub beta-rule : (k : ℕ) → k < 64 → beta_on (get_or beta_table (0 + 1 * k) 0) ≡ 2 ^ k
unfolding beta_table all_below beta_on rot_l rot_r shl
beta-rule = equal-below (λ k. beta_on (get_or beta_table (0 + 1 * k) 0)) (λ k. 2 ^ k) 64 refl

pub beta-solved : (e : ℕ) → e < 2 ^ 64 → beta_on (beta_word e) ≡ e
unfolding beta_word
beta-solved =
    word_same (λ e. beta_on (beta_word e)) (word_after beta_on beta_word word-beta_on word-beta_word)
    (λ j h. ap beta_on (chosen-unit beta_table beta-small 0 1 j 64 h) ∙ beta-rule j h)

beta-units : (j : ℕ) → j < 64 → beta_word (beta_on (2 ^ j)) ≡ 2 ^ j
unfolding beta_table beta_word chosen all_below beta_on rot_l rot_r shl
beta-units = equal-below (λ j. beta_word (beta_on (2 ^ j))) (λ j. 2 ^ j) 64 refl

pub beta-found : (x : ℕ) → x < 2 ^ 64 → beta_word (beta_on x) ≡ x
beta-found = word_same (λ x. beta_word (beta_on x)) (word_after beta_word beta_on word-beta_word word-beta_on) beta-units

-- ---- backward gamma: two words

-- what the two words solve
unfoldable pub gamma_x : ℕ → ℕ → ℕ
gamma_x x y = bit_xor (bit_xor (rot_l 53 x) (shl 13 x)) (bit_xor (shl 13 y) y)

unfoldable pub gamma_y : ℕ → ℕ → ℕ
gamma_y x y = bit_xor (bit_xor x (shl 13 x)) (bit_xor y (rot_l 53 y))

pair-gamma_x : OnPair gamma_x
unfolding gamma_x
pair-gamma_x =
    pair-xor (λ x. bit_xor (rot_l 53 x) (shl 13 x)) (λ y. bit_xor (shl 13 y) y)
    (word-xor (rot_l 53) (shl 13) rotated shifted) (word-xor (shl 13) (λ y. y) shifted word-id)

pair-gamma_y : OnPair gamma_y
unfolding gamma_y
pair-gamma_y =
    pair-xor (λ x. bit_xor x (shl 13 x)) (λ y. bit_xor y (rot_l 53 y))
    (word-xor (λ x. x) (shl 13) word-id shifted) (word-xor (λ y. y) (rot_l 53) word-id rotated)

gamma-small : (i : ℕ) → get_or gamma_table i 0 < 2 ^ 64
unfolding gamma_table all_below
gamma-small = small-words gamma_table refl

pub pair-gamma_word : (at : ℕ) → OnPair (gamma_word gamma_table at)
unfolding gamma_word
pair-gamma_word at =
    pair-xor (λ e. chosen gamma_table at 2 e 64) (λ f. chosen gamma_table (at + 128) 2 f 64)
    (word-chosen gamma_table gamma-small at 2 64) (word-chosen gamma_table gamma-small (at + 128) 2 64)

-- the rule of the table: row k, the words at 2k and 2k + 1, solves for the k-th of the 128 bits
unfoldable pub row : ℕ → ℕ
row k = joined (gamma_x (get_or gamma_table (0 + 2 * k) 0) (get_or gamma_table (1 + 2 * k) 0)) (gamma_y (get_or gamma_table (0 + 2 * k) 0) (get_or gamma_table (1 + 2 * k) 0))

pub gamma-rule : (k : ℕ) → k < 128 → row k ≡ 2 ^ k
unfolding gamma_table all_below gamma_x gamma_y rot_l rot_r shl joined row
gamma-rule = equal-below row (λ k. 2 ^ k) 128 refl

-- one bit alone chooses its row
gamma-unit : (at k : ℕ) → k < 128 → gamma_word gamma_table at (2 ^ k % 2 ^ 64) (2 ^ k / 2 ^ 64) ≡ get_or gamma_table (at + 2 * k) 0
unfolding gamma_word
gamma-unit at k h = elim (dec_lt k 64) [
  | yes p ↦ rw (mod-eq_of_lt (pow-lt p), div-eq_of_lt (pow-lt p), chosen-zero gamma_table gamma-small (at + 128) 2 64, chosen-unit gamma_table gamma-small at 2 k 64 p) (xor_zero_r _)
  | no q ↦ let j = k - 64 in
      let here : j + 64 ≡ k = omega arith in
      let place : at + 128 + 2 * j ≡ at + 2 * k = omega arith in
      let whole : 2 ^ k ≡ 2 ^ j * 2 ^ 64 = ap (λ (n : ℕ). 2 ^ n) (sym here) ∙ pow-add 2 j 64 in
      ap₂ (gamma_word gamma_table at) (ap (λ (n : ℕ). n % 2 ^ 64) whole ∙ mul-mod_left (2 ^ j) (2 ^ 64)) (ap (λ (n : ℕ). n / 2 ^ 64) whole ∙ shl-shr (2 ^ j) 64)
      ∙ ap₂ bit_xor (chosen-zero gamma_table gamma-small at 2 64) (chosen-unit gamma_table gamma-small (at + 128) 2 j 64 (omega arith))
      ∙ ap (λ (n : ℕ). get_or gamma_table n 0) place
]

pub gamma-solved : (e f : ℕ) → e < 2 ^ 64 → f < 2 ^ 64
    → (gamma_x (gamma_word gamma_table 0 e f) (gamma_word gamma_table 1 e f) ≡ e) × (gamma_y (gamma_word gamma_table 0 e f) (gamma_word gamma_table 1 e f) ≡ f)
unfolding on_joined row
gamma-solved =
    pair_same (λ e f. gamma_x (gamma_word gamma_table 0 e f) (gamma_word gamma_table 1 e f)) (λ e f. gamma_y (gamma_word gamma_table 0 e f) (gamma_word gamma_table 1 e f))
    (pair-after gamma_x (gamma_word gamma_table 0) (gamma_word gamma_table 1) pair-gamma_x (pair-gamma_word 0) (pair-gamma_word 1))
    (pair-after gamma_y (gamma_word gamma_table 0) (gamma_word gamma_table 1) pair-gamma_y (pair-gamma_word 0) (pair-gamma_word 1))
    (λ k h. ap₂ (λ (x y : ℕ). joined (gamma_x x y) (gamma_y x y)) (gamma-unit 0 k h) (gamma-unit 1 k h) ∙ gamma-rule k h)

-- a map of what two words solve
abbrev of_sides : (ℕ → ℕ → ℕ) → ℕ → ℕ → ℕ
of_sides f x y = f (gamma_x x y) (gamma_y x y)

gamma-units : (k : ℕ) → k < 128 → on_joined (of_sides (gamma_word gamma_table 0)) (of_sides (gamma_word gamma_table 1)) (2 ^ k) ≡ 2 ^ k
unfolding gamma_table chosen all_below gamma_x gamma_y rot_l rot_r shl joined on_joined gamma_word
gamma-units = equal-below (λ k. on_joined (of_sides (gamma_word gamma_table 0)) (of_sides (gamma_word gamma_table 1)) (2 ^ k)) (λ k. 2 ^ k) 128 refl

pub gamma-found : (x y : ℕ) → x < 2 ^ 64 → y < 2 ^ 64
    → (gamma_word gamma_table 0 (gamma_x x y) (gamma_y x y) ≡ x) × (gamma_word gamma_table 1 (gamma_x x y) (gamma_y x y) ≡ y)
gamma-found =
    pair_same (of_sides (gamma_word gamma_table 0)) (of_sides (gamma_word gamma_table 1))
    (pair-after (gamma_word gamma_table 0) gamma_x gamma_y (pair-gamma_word 0) pair-gamma_x pair-gamma_y)
    (pair-after (gamma_word gamma_table 1) gamma_x gamma_y (pair-gamma_word 1) pair-gamma_x pair-gamma_y)
    gamma-units
