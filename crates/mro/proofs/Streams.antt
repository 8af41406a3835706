-- The stream's blocks, and bytes xored with them. Assumes nothing.
use mathlib.Core.Path.{◌≡◌, sym, ap, ap₂, ◌∙◌}
use mathlib.Core.List.{List, [], ◌∷◌, ◌++◌}
use Prim.Native.Nat.{ℕ, ◌+◌}
use native.Mathlib.Nat.{zero-add}
use lib.Dec.{lit<}
use lib.ListN.{get_or}
use Rattle.words.specs.Sequence.{tab, zeros}
use Rattle.words.specs.Block.{Block, block_of, bytes_of, xor_block, xor_bytes}
use Rattle.words.proofs.Lists.{cat-ext}
use Rattle.words.proofs.Blocks.{length-bytes_of, bytes-bytes_of, bytes-are, bytes_of-xor, block-block_of}
use Rattle.mem.specs.Mem.{encipher}
use Rattle.blockplan.specs.Plan.{whole, left, block_at, ciphered, tag_bytes}
use Rattle.blockplan.proofs.Tags.{word-tag}
use Rattle.mro.specs.Mro.{counter}
use Rattle.mro.specs.Streams.{stream_from, streamed_from, onward, xored}

-- the counter's block, word by word
pub counter-words : (b : List ℕ) → Block b → (i : ℕ)
    → counter (tag_bytes b) i ≡ get_or b 0 0 ∷ get_or b 1 0 ∷ get_or b 2 0 ∷ get_or b 3 0 ∷ 0 ∷ 0 ∷ 0 ∷ 0 ∷ 0 ∷ 0 ∷ 0 ∷ 0 ∷ 0 ∷ 0 ∷ 0 ∷ i ∷ []
unfolding counter zeros tab
counter-words b h i = rw (word-tag b h 0 (lit< tt), word-tag b h 1 (lit< tt), word-tag b h 2 (lit< tt), word-tag b h 3 (lit< tt))

-- the stream's block i, its mask given
unfoldable pub stream_at : ℕ → List ℕ → List ℕ → ℕ → List ℕ
stream_at rounds mask tag i = encipher rounds mask (counter tag i)

-- only the stream's bytes count, so that its blocks may be taken to be well formed
unfoldable pub formed : (ℕ → List ℕ) → ℕ → List ℕ
formed k i = block_of (bytes_of (k i))

pub formed-block : (k : ℕ → List ℕ) (i : ℕ) → Block (formed k i)
unfolding formed
formed-block k i = block-block_of (bytes_of (k i)) (bytes-bytes_of (k i))

pub formed-bytes : (k : ℕ → List ℕ) (i : ℕ) → bytes_of (formed k i) ≡ bytes_of (k i)
unfolding formed
formed-bytes k i = bytes-are (bytes_of (k i)) (bytes-bytes_of (k i)) (length-bytes_of (k i))

xored-bytes : (k : ℕ → List ℕ) (i : ℕ) (b : List ℕ) → bytes_of (xored k i b) ≡ bytes_of (xored (formed k) i b)
unfolding xored
xored-bytes k i b = bytes_of-xor b (k i) ∙ ap (xor_bytes (bytes_of b)) (sym (formed-bytes k i)) ∙ sym (bytes_of-xor b (formed k i))

pub xored-formed : (k : ℕ → List ℕ) (s : List ℕ) → ciphered (xored k) k s ≡ ciphered (xored (formed k)) (formed k) s
unfolding ciphered
xored-formed k s =
    ap₂ (λ (a b : List ℕ). a ++ xor_bytes (left s) b)
    (cat-ext (λ i. bytes_of (xored k i (block_at s i))) (λ i. bytes_of (xored (formed k) i (block_at s i))) (whole s) (λ i h. xored-bytes k i (block_at s i)))
    (sym (formed-bytes k (whole s)))

-- from block 0 on it is the whole stream
pub onward-none : (k : ℕ → List ℕ) (s : List ℕ) → ciphered (xored (onward k 0)) (onward k 0) s ≡ ciphered (xored k) k s
unfolding ciphered onward xored
onward-none k s =
    let at : (i : ℕ) → k (0 + i) ≡ k i = λ i. ap k (zero-add i) in
    ap₂ (λ (a b : List ℕ). a ++ xor_bytes (left s) b)
    (cat-ext (λ i. bytes_of (xor_block (block_at s i) (k (0 + i)))) (λ i. bytes_of (xor_block (block_at s i) (k i))) (whole s)
    (λ i h. ap (λ (b : List ℕ). bytes_of (xor_block (block_at s i) b)) (at i)))
    (ap bytes_of (at (whole s)))

-- the same of a tag's stream
pub from_first : (rounds : ℕ) (mask tag s : List ℕ) → ciphered (streamed_from rounds mask tag 0) (stream_from rounds mask tag 0) s
    ≡ ciphered (xored (stream_at rounds mask tag)) (stream_at rounds mask tag) s
unfolding streamed_from stream_from stream_at onward xored
from_first rounds mask tag s = onward-none (λ i. encipher rounds mask (counter tag i)) s
