-- Four blocks at a time: what functions promise each other; no passage of document 01. Assumes nothing.
use Rattle.std.specs.Prelude.{◌≡◌, List, ℕ, zero, suc, ◌+◌, ◌*◌, ◌≤◌, ◌<◌, length, get_or}
use Rattle.std.specs.Int.Bits.{bit_xor}
use Rattle.words.specs.Block.{xor_block}
use Rattle.masks.specs.Run.{mask_from}
use Rattle.lanes.specs.Lanes.{lane}
use Rattle.quads.specs.declared.Four.{Four}

-- block m of four
unfoldable pub nth : Four → ℕ → List ℕ
nth r zero = r.a
nth r (suc zero) = r.b
nth r (suc (suc zero)) = r.c
nth r (suc (suc (suc m))) = r.d

-- block m of r is f m
pub record FourAre (r : Four) (f : ℕ → List ℕ) : Type 0 where
  pub each : (m : ℕ) → m < 4 → nth r m ≡ f m

-- lane m of the 64 words is f m
pub record Spread (w : List ℕ) (f : ℕ → List ℕ) : Type 0 where
  pub long : length w ≡ 64
  pub each : (m : ℕ) → m < 4 → lane w m ≡ f m

-- k words of each lane, from word i on, are xored with those of its mask, which for lane m stands in the list from word n + m on; the others are as they were
pub record MaskedWords (masks : List ℕ) (n i k : ℕ) (w v : List ℕ) : Type 0 where
  pub long : length v ≡ length w
  pub inside : (m j : ℕ) → m < 4 → i ≤ j → j < i + k → get_or v (4 * j + m) 0 ≡ bit_xor (get_or w (4 * j + m) 0) (get_or masks (n + m + j) 0)
  pub before : (m j : ℕ) → m < 4 → j < i → get_or v (4 * j + m) 0 ≡ get_or w (4 * j + m) 0
  pub behind : (m j : ℕ) → m < 4 → i + k ≤ j → get_or v (4 * j + m) 0 ≡ get_or w (4 * j + m) 0

-- lane m of v is that of w xor f m
pub record Masked (f : ℕ → List ℕ) (w v : List ℕ) : Type 0 where
  pub long : length v ≡ length w
  pub each : (m : ℕ) → m < 4 → lane v m ≡ xor_block (lane w m) (f m)

-- the masks that stand in a run from word n on
unfoldable pub from_run : ℕ → List ℕ → ℕ → ℕ → List ℕ
from_run kind run n i = mask_from kind run (n + i)
