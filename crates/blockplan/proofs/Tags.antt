-- Laws of a tag's bytes, the first 32 of a block, and of the four words that they stand for. Assumes nothing.
use mathlib.Core.Path.{◌≡◌, sym, ap, ◌∙◌}
use mathlib.Core.List.{List, [], ◌++◌, append-nil}
use Prim.Native.Nat.{ℕ, ◌-◌, ◌*◌, ◌<◌, ◌≤◌}
use native.Mathlib.Omega.{arith}
use lib.Dec.{lit<}
use lib.ListN.{length, get_or, take, drop, length-append, length-drop, drop_of_length-le}
use lib.Seq.{take_at, length-take-le}
use Rattle.words.specs.Sequence.{tab, cat, zeros}
use Rattle.words.specs.Block.{Block, Bytes, le, word_at, word_bytes, block_of, bytes_of}
use Rattle.words.proofs.Lists.{length-tab, piece, take-cat, get_or-zeros, zeros-more, tab-zeros}
use Rattle.words.proofs.Blocks.{length-word_bytes, le-low_bytes, length-bytes_of, bytes-bytes_of, bytes_take, bytes_drop, bytes-append, bytes-are, block_of-ext}
use Rattle.blockplan.specs.Plan.{tag_bytes}
use Rattle.blockplan.specs.Parcel.{tag_part}

pub length-tag_bytes : (b : List ℕ) → length (tag_bytes b) ≡ 32
unfolding tag_bytes
length-tag_bytes b = length-take-le 32 (bytes_of b) (rw (length-bytes_of b) (omega arith))

pub bytes-tag_bytes : (b : List ℕ) → Bytes (tag_bytes b)
unfolding tag_bytes
bytes-tag_bytes b = bytes_take 32 (bytes_of b) (bytes-bytes_of b)

-- the bytes of the first four words
pub tag_is : (b : List ℕ) → tag_bytes b ≡ cat (word_bytes b) 4
unfolding tag_bytes bytes_of
tag_is b = take-cat (word_bytes b) 8 16 4 (length-word_bytes b) (omega arith)

-- a block's first four words come back from its tag
pub word-tag : (b : List ℕ) → Block b → (i : ℕ) → i < 4 → word_at (tag_bytes b) i ≡ get_or b i 0
unfolding word_at word_bytes
word-tag b h i p =
    ap (λ (l : List ℕ). le (take 8 (drop (8 * i) l))) (tag_is b ∙ sym (append-nil (cat (word_bytes b) 4)))
    ∙ ap le (piece (word_bytes b) 8 4 i [] (length-word_bytes b) p) ∙ le-low_bytes 8 (get_or b i 0) (h.words i)

module _ (t : List ℕ) (e : length t ≡ 32) where
  no_word : (i : ℕ) → 4 ≤ i → word_at t i ≡ 0
  unfolding word_at le
  no_word i p = ap (λ (l : List ℕ). le (take 8 l)) (drop_of_length-le t {i = 8 * i} (omega arith))

  -- the block that 32 bytes stand for: their four words, and zeros
  pub block-of-tag : block_of t ≡ tab (word_at t) 4 ++ zeros 12
  unfolding block_of
  block-of-tag = tab-zeros (word_at t) 4 12 no_word

-- 32 bytes come back from the block that they stand for
pub tag-of-block : (t : List ℕ) → Bytes t → length t ≡ 32 → tag_bytes (block_of t) ≡ t
unfolding tag_bytes zeros
tag-of-block t h e =
    let all = t ++ zeros 96 in
    let long : length all ≡ 128 = length-append t (zeros 96) ∙ rw (e, length-tab (λ i. 0) 96) in
    let bytes : Bytes all = bytes-append t (zeros 96) h (record { bytes = λ i. rw (get_or-zeros 96 i) (lit< tt) }) in
    ap (λ (b : List ℕ). take 32 (bytes_of b)) (sym (block_of-ext all t (zeros-more t 96)))
    ∙ ap (take 32) (bytes-are all bytes long) ∙ take_at t (zeros 96) 32 e

-- the block that a parcel's last 32 bytes stand for begins with its tag
pub tag-of-parcel : (parcel block : List ℕ) → Bytes parcel → 32 ≤ length parcel → block ≡ block_of (drop (length parcel - 32) parcel) → tag_bytes block ≡ tag_part parcel
unfolding tag_part
tag-of-parcel parcel block h long e =
    let n = length parcel - 32 in
    ap tag_bytes e ∙ tag-of-block (drop n parcel) (bytes_drop n parcel h) (simp length-drop (omega arith))
