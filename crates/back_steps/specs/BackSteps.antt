-- The three back steps (document 01, "Masks"). A reader need not believe the ways of solving for words here, or the numbers of their
-- tables: theorem back-steps (proofs/Laws) shows each value to be the only block whose forward step gives the block at hand.
-- Assumes nothing.
use Rattle.std.specs.Prelude.{List, ◌∷◌, ℕ, zero, suc, ◌+◌, ◌*◌, ◌/◌, ◌%◌, ◌^◌, get_or, take}
use Rattle.std.specs.Int.Bits.{bit_xor}
use Rattle.words.specs.Sequence.{tab}
use Rattle.words.specs.Block.{Block}
use Rattle.masks.specs.Steps.{alpha, beta, gamma, OnlyBlock}
use Rattle.words.specs.Word.{rot_r, shl}
use Rattle.back_steps.specs.Tables.{beta_table, gamma_table}

-- back from alpha is direct
unfoldable pub back_alpha : List ℕ → List ℕ
back_alpha s = rot_r 53 (bit_xor (get_or s 15 0) (shl 13 (get_or s 4 0))) ∷ take 15 s

-- the words of a table at places at, at + step, .. that the lowest n bits of e choose, exclusive or
unfoldable pub chosen : List ℕ → ℕ → ℕ → ℕ → ℕ → ℕ
chosen t at step e zero = 0
chosen t at step e (suc n) = bit_xor (get_or t (at + step * n) 0 * (e / 2 ^ n % 2)) (chosen t at step e n)

-- word i of the run from x on whose neighbours differ by the words of b
unfoldable pub beta_run : List ℕ → ℕ → ℕ → ℕ
beta_run b x zero = x
beta_run b x (suc i) = bit_xor (beta_run b x i) (get_or b i 0)

-- what the first word of the run has to solve, so that the word after the sixteenth is alpha's new word
unfoldable pub beta_side : List ℕ → ℕ
beta_side b = bit_xor (beta_run b 0 16) (shl 13 (beta_run b 0 5))

-- the word that solves it: row k of the table for each bit k
unfoldable pub beta_word : ℕ → ℕ
beta_word e = chosen beta_table 0 1 e 64

-- the backward beta step solves for one word
unfoldable pub back_beta : List ℕ → List ℕ
back_beta b = tab (beta_run b (beta_word (beta_side b))) 16

-- word i of the run from x, y on in which three neighbours, exclusive or, give the words of b
unfoldable pub gamma_run : List ℕ → ℕ → ℕ → ℕ → ℕ
gamma_run b x y zero = x
gamma_run b x y (suc zero) = y
gamma_run b x y (suc (suc i)) = bit_xor (bit_xor (gamma_run b x y (suc i)) (gamma_run b x y i)) (get_or b i 0)

-- what the first two words of the run have to solve, so that the two after the sixteenth are those of alpha taken once (k = 0) and
-- twice (k = 1)
unfoldable pub gamma_side : List ℕ → ℕ → ℕ
gamma_side b k = bit_xor (gamma_run b 0 0 (k + 16)) (shl 13 (gamma_run b 0 0 (k + 5)))

-- the words that solve them, the first at = 0 and the second at = 1: row k of the table for each bit k of e, row 64 + k for each of f
unfoldable pub gamma_word : List ℕ → ℕ → ℕ → ℕ → ℕ
gamma_word t at e f = bit_xor (chosen t at 2 e 64) (chosen t (at + 128) 2 f 64)

-- the backward gamma step solves for two words
unfoldable pub back_gamma : List ℕ → List ℕ
back_gamma b =
    tab
    (gamma_run b (gamma_word gamma_table 0 (gamma_side b 0) (gamma_side b 1)) (gamma_word gamma_table 1 (gamma_side b 0) (gamma_side b 1)))
    16

-- each has a back step: its value is the only block whose forward step gives the block at hand; proved as back-steps in proofs/Laws
pub record BackSteps : Type 0 where
  pub alpha-only : (s : List ℕ) → Block s → OnlyBlock alpha s (back_alpha s)
  pub beta-only : (s : List ℕ) → Block s → OnlyBlock beta s (back_beta s)
  pub gamma-only : (s : List ℕ) → Block s → OnlyBlock gamma s (back_gamma s)
