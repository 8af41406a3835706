-- A pass over whole blocks, each under a mask of its own: what functions promise each other; no passage of document 01. Assumes nothing.
use Rattle.std.specs.Prelude.{◌≡◌, Bool, cond, List, ◌++◌, ℕ, ◌*◌, drop}
use Rattle.words.specs.Sequence.{cat, times}
use Rattle.words.specs.Block.{bytes_of}
use Rattle.masks.specs.Steps.{alpha}
use Rattle.mem.specs.Mem.{mask_at, encipher, decipher}
use Rattle.blockplan.specs.Plan.{block_at, xor_over}

-- what f makes of block i of s
unfoldable pub made_at : (ℕ → List ℕ → List ℕ) → List ℕ → ℕ → List ℕ
made_at f s i = f i (block_at s i)

-- its bytes
unfoldable pub bytes_at : (ℕ → List ℕ → List ℕ) → List ℕ → ℕ → List ℕ
bytes_at f s i = bytes_of (made_at f s i)

-- block i of the message: as it comes out where a parcel is opened, else as it goes in
unfoldable pub plain_at : Bool → (ℕ → List ℕ → List ℕ) → List ℕ → ℕ → List ℕ
plain_at opening f s i = cond opening (made_at f s i) (block_at s i)

-- block i enciphered, or deciphered where a parcel is opened, under mask number i
unfoldable pub under : Bool → ℕ → (ℕ → List ℕ) → ℕ → List ℕ → List ℕ
under opening rounds mask i block = cond opening (decipher rounds (mask i) block) (encipher rounds (mask i) block)

-- block i deciphered under mask number i of one start, and enciphered under that of another
unfoldable pub across : ℕ → (ℕ → List ℕ) → (ℕ → List ℕ) → ℕ → List ℕ → List ℕ
across rounds from to i block = encipher rounds (to i) (decipher rounds (from i) block)

-- the masks of document 01's plan for j and k: number i is (i, j, k)
unfoldable pub planned : List ℕ → ℕ → ℕ → ℕ → List ℕ
planned start j k i = mask_at start i j k

-- masks that step on: number i is i alpha steps on from the first
unfoldable pub stepping : List ℕ → ℕ → List ℕ
stepping first i = times alpha i first

-- n blocks of s are passed: their bytes are in front of what the output had, the sum is that of their message blocks, and the next mask is number n
pub record Passed (opening : Bool) (rounds : ℕ) (mask : ℕ → List ℕ) (s : List ℕ) (n : ℕ) (old new sum next : List ℕ) : Type 0 where
  pub written : new ≡ cat (bytes_at (under opening rounds mask) s) n ++ drop (128 * n) old
  pub summed : sum ≡ xor_over (plain_at opening (under opening rounds mask) s) n
  pub reached : next ≡ mask n
