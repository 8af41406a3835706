-- The parts of the block plan that both modes share (document 01, "Block plan"). Assumes nothing.
use Rattle.std.specs.Prelude.{Bool, cond, List, ◌++◌, ℕ, ◌*◌, ◌/◌, ltb, length, take, drop}
use Rattle.words.specs.Sequence.{cat, fold}
use Rattle.words.specs.Block.{block_of, bytes_of, xor_block, xor_bytes, zero_block}
use Rattle.mem.specs.Mem.{E}

-- the number of whole blocks
unfoldable pub whole : List ℕ → ℕ
whole s = length s / 128

-- the leftover
unfoldable pub left : List ℕ → List ℕ
left s = drop (128 * whole s) s

-- whether there is a leftover; no leftover, no extra block
unfoldable pub has_left : List ℕ → Bool
has_left s = ltb 0 (length (left s))

-- block i, counted from 0; bytes past the end count as zero
unfoldable pub block_at : List ℕ → ℕ → List ℕ
block_at s i = block_of (drop (128 * i) s)

-- block i of s as a sum takes it in, E(i, j, 0) of it: j is 0 for a header and 1 for MRO's message
unfoldable pub absorb_at : ℕ → List ℕ → ℕ → List ℕ → ℕ → List ℕ
absorb_at rounds start j s i = E rounds start i j 0 (block_at s i)

-- the xor of the blocks f 0 to f (n - 1); of no blocks it is the zero block
unfoldable pub xor_over : (ℕ → List ℕ) → ℕ → List ℕ
xor_over f n = fold (λ i sum. xor_block sum (f i)) zero_block n

-- a block more where there is one
unfoldable pub xor_if : Bool → List ℕ → List ℕ → List ℕ
xor_if more sum block = cond more (xor_block sum block) sum

-- each whole block i becomes f i of it, and a leftover is xored with the first bytes of stream at the number of whole blocks
unfoldable pub ciphered : (ℕ → List ℕ → List ℕ) → (ℕ → List ℕ) → List ℕ → List ℕ
ciphered f stream s = cat (λ i. bytes_of (f i (block_at s i))) (whole s) ++ xor_bytes (left s) (bytes_of (stream (whole s)))

-- the first 32 bytes of a block
unfoldable pub tag_bytes : List ℕ → List ℕ
tag_bytes b = take 32 (bytes_of b)
