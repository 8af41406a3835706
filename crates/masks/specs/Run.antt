-- The run of words that all masks are taken from (document 02, card 6). Assumes nothing.
use Rattle.std.specs.Prelude.{◌≡◌, List, [], ◌∷◌, ◌++◌, ℕ, zero, suc, ◌+◌, ◌-◌, ◌≤◌, length, get_or, take}
use Rattle.std.specs.Int.Bits.{bit_xor}
use Rattle.words.specs.Sequence.{tab}
use Rattle.masks.specs.Steps.{alpha_w}

-- word n + 16 of a run, from the words w so far: word n rotated left by 53, xor word n + 5 shifted left by 13
unfoldable pub next_word : List ℕ → ℕ → ℕ
next_word w n = alpha_w (get_or w n 0) (get_or w (n + 5) 0)

-- the run of the block s so far: its sixteen words and n more
unfoldable pub grown : List ℕ → ℕ → List ℕ
grown s zero = s
grown s (suc n) = grown s n ++ (next_word (grown s n) n ∷ [])

-- word n of the run of s
unfoldable pub run : List ℕ → ℕ → ℕ
run s n = get_or (grown s n) n 0

-- words t to t + k, exclusive or
unfoldable pub neighbours : ℕ → List ℕ → ℕ → ℕ
neighbours zero w t = get_or w t 0
neighbours (suc k) w t = bit_xor (neighbours k w (t + 1)) (get_or w t 0)

-- the mask that stands at word n: sixteen words from there on, for k = 1 each with its next neighbour, for k = 2 with the next two
unfoldable pub mask_from : ℕ → List ℕ → ℕ → List ℕ
mask_from k w n = tab (λ i. neighbours k w (n + i)) 16

-- w is the run of its first sixteen words
pub record IsRun (w : List ℕ) : Type 0 where
  pub long : 16 ≤ length w
  pub grows : w ≡ grown (take 16 w) (length w - 16)
