-- Blocks of sixteen words, and the 128 bytes that they stand for (document 01, "Words, bytes, blocks"). Assumes nothing.
use Rattle.std.specs.Prelude.{◌≡◌, List, [], ◌∷◌, ℕ, zero, suc, ◌+◌, ◌*◌, ◌/◌, ◌%◌, ◌^◌, ◌<◌, length, get_or, take, drop}
use Rattle.std.specs.Int.Bits.{bit_xor}
use Rattle.words.specs.Sequence.{tab, cat}

-- a block has 16 words, numbered 0 to 15, of 64 bits each
pub record Block (s : List ℕ) : Type 0 where
  pub long : length s ≡ 16
  pub words : (i : ℕ) → get_or s i 0 < 2 ^ 64

-- each number of the list is a byte
pub record Bytes (s : List ℕ) : Type 0 where
  pub bytes : (i : ℕ) → get_or s i 0 < 256

-- the number that bytes stand for, low byte first
unfoldable pub le : List ℕ → ℕ
le [] = 0
le (b ∷ bs) = b + 256 * le bs

-- the k low bytes of a number, low byte first
unfoldable pub low_bytes : ℕ → ℕ → List ℕ
low_bytes zero w = []
low_bytes (suc k) w = w % 256 ∷ low_bytes k (w / 256)

-- word i of the bytes s; past their end they count as zero
unfoldable pub word_at : List ℕ → ℕ → ℕ
word_at s i = le (take 8 (drop (8 * i) s))

-- the block that the first 128 bytes of s stand for
unfoldable pub block_of : List ℕ → List ℕ
block_of s = tab (word_at s) 16

-- the eight bytes of word i of a block
unfoldable pub word_bytes : List ℕ → ℕ → List ℕ
word_bytes b i = low_bytes 8 (get_or b i 0)

-- the 128 bytes of a block
unfoldable pub bytes_of : List ℕ → List ℕ
bytes_of b = cat (word_bytes b) 16

-- number i of two lists, exclusive or
unfoldable pub xor_at : List ℕ → List ℕ → ℕ → ℕ
xor_at a b i = bit_xor (get_or a i 0) (get_or b i 0)

-- two blocks, exclusive or
unfoldable pub xor_block : List ℕ → List ℕ → List ℕ
xor_block a b = tab (xor_at a b) 16

-- the bytes s, exclusive or k byte by byte; past its end k counts as zero
unfoldable pub xor_bytes : List ℕ → List ℕ → List ℕ
xor_bytes s k = tab (xor_at s k) (length s)

-- the zero block
unfoldable pub zero_block : List ℕ
zero_block = tab (λ i. 0) 16
