-- Demand 3: the order of mask steps counts for nothing. One claim about the whole list (document 01, "Entry points"). Assumes nothing.
use Rattle.std.specs.Prelude.{◌≡◌, cond, List, [], ◌∷◌, ◌++◌, ℕ, suc, ◌+◌, ◌≤◌, ◌<◌, eqb, ℤ, pos, ◌-ℤ◌, length, get_or, drop, Ok}
use Rattle.words.specs.Sequence.{zeros}
use Rattle.words.specs.Block.{Bytes, xor_bytes}
use Rattle.answers.specs.Answers.{room, checked, clear}
use Rattle.walking.specs.Walking.{walk_call, jump_call}

-- a 128-byte start or block
pub record Start (s : List ℕ) : Type 0 where
  pub long : length s ≡ 128
  pub bytes : Bytes s

-- a list of steps 1 to 6, at most 4,096
pub record Steps (steps : List ℕ) : Type 0 where
  pub most : length steps ≤ 4096
  pub low : (i : ℕ) → i < length steps → 1 ≤ get_or steps i 0
  pub high : (i : ℕ) → i < length steps → get_or steps i 0 ≤ 6

-- how often a byte stands in a list
unfoldable pub count : ℕ → List ℕ → ℕ
count k [] = 0
count k (s ∷ steps) = cond (eqb s k) (suc (count k steps)) (count k steps)

-- a kind's net count in a list: the number of its forward step bytes less the number of its back step bytes; kinds 1 to 3
unfoldable pub net : ℕ → List ℕ → ℤ
net kind steps = pos (count kind steps) -ℤ pos (count (kind + 3) steps)

-- the mask of a start and a list: the 128 bytes that walk writes for them
unfoldable pub mask : List ℕ → List ℕ → List ℕ
mask start steps = (walk_call start steps (zeros 128)).1

-- demand 3
pub record Demand3 : Type 0 where
  -- what walk answers and writes is what jump answers and writes by the list's three net counts, for any output buffer
  pub walk-is-jump : (start steps out : List ℕ) → Start start → Steps steps
      → walk_call start steps out ≡ jump_call start (net 1 steps) (net 2 steps) (net 3 steps) out
  -- it can be refused with 7 alone, and then changes no byte; else it writes the mask and leaves the rest
  pub only-seven : (start steps out : List ℕ) → Start start → Steps steps
      → walk_call start steps out ≡ checked (room 128 (length out) clear) out (Ok 128, mask start steps ++ drop 128 out)
  -- and so can the jump by the list's net counts
  pub jump-only-seven : (start steps out : List ℕ) → Start start → Steps steps
      → jump_call start (net 1 steps) (net 2 steps) (net 3 steps) out
      ≡ checked (room 128 (length out) clear) out (Ok 128, mask start steps ++ drop 128 out)
  -- so two lists with the same net counts end alike
  pub same-nets : (start l m out : List ℕ) → Start start → Steps l → Steps m
      → net 1 l ≡ net 1 m → net 2 l ≡ net 2 m → net 3 l ≡ net 3 m → walk_call start l out ≡ walk_call start m out
  -- and at the start itself where all three are zero
  pub zero-nets : (start l : List ℕ) → Start start → Steps l → net 1 l ≡ pos 0 → net 2 l ≡ pos 0 → net 3 l ≡ pos 0 → mask start l ≡ start
  -- the mask from the exclusive or of two starts is the exclusive or of their two masks under the same list
  pub linear : (s t l : List ℕ) → Start s → Start t → Steps l → mask (xor_bytes s t) l ≡ xor_bytes (mask s l) (mask t l)
  -- each mask is again 128 bytes
  pub again : (start l : List ℕ) → Start start → Steps l → Start (mask start l)
  -- for every 128-byte block and each of the three kinds, the back step leads here again by the forward step of that kind
  pub back : (kind : ℕ) (s : List ℕ) → 1 ≤ kind → kind ≤ 3 → Start s → mask (mask s ((kind + 3) ∷ [])) (kind ∷ []) ≡ s
  -- and it gives the only such block
  pub only : (kind : ℕ) (s t : List ℕ) → 1 ≤ kind → kind ≤ 3 → Start s → Start t → mask t (kind ∷ []) ≡ s → t ≡ mask s ((kind + 3) ∷ [])
