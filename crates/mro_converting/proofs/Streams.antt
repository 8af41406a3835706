-- The stream's blocks are blocks, and bytes xored with two streams. Assumes nothing.
use mathlib.Core.Path.{◌≡◌, sym, ap, ap₂, ◌∙◌}
use mathlib.Core.List.{List, [], ◌∷◌, ◌++◌}
use Prim.Native.Nat.{ℕ, zero, suc, ◌^◌, ◌≤◌, ◌<◌}
use native.Mathlib.Omega.{arith}
use lib.Dec.{lit<}
use lib.ListN.{length, get_or, length-append}
use lib.Bits.{bit_xor}
use Rattle.words.specs.Sequence.{tab, cat, zeros}
use Rattle.words.specs.Block.{Block, Bytes, bytes_of, word_at, xor_at, xor_block, xor_bytes}
use Rattle.words.proofs.Lists.{length-tab, get_or-tab, tab-ext, cat-ext, below-append}
use Rattle.words.proofs.Xor.{xor_assoc}
use Rattle.words.proofs.Blocks.{length-bytes_of, length-xor_bytes, bytes_of-xor, xor-block, below-tab, word_at-lt}
use Rattle.mem.proofs.Laws.{cipher-undo}
use Rattle.blockplan.specs.Plan.{whole, left, block_at, ciphered}
use Rattle.blockplan.specs.Pass.{made_at, bytes_at}
use Rattle.blockplan.proofs.Leftovers.{left_lt, block-block_at}
use Rattle.blockplan.proofs.Ciphered.{whole-ciphered, left-ciphered, block_at-ciphered}
use Rattle.mro.specs.Mro.{counter}
use Rattle.mro.specs.Streams.{xored}
use Rattle.mro.proofs.Streams.{stream_at, formed, formed-block, formed-bytes, xored-formed}

one_below : (i m : ℕ) → 0 < m → i < m → (j : ℕ) → get_or (i ∷ []) j 0 < m
one_below i m z h zero = h
one_below i m z h (suc j) = z

-- the counter's block is a block, where the count is a word
counter-block : (tag : List ℕ) → Bytes tag → (i : ℕ) → i < 2 ^ 64 → Block (counter tag i)
unfolding counter zeros
counter-block tag h i p = record {
  long = simp (length-append, length-tab);
  words = below-append (2 ^ 64) (tab (word_at tag) 4) (tab (λ j. 0) 11 ++ (i ∷ []))
      (below-tab (word_at tag) 4 (2 ^ 64) (lit< tt) (λ j q. word_at-lt tag j h))
      (below-append (2 ^ 64) (tab (λ j. 0) 11) (i ∷ []) (below-tab (λ j. 0) 11 (2 ^ 64) (lit< tt) (λ j q. lit< tt)) (one_below i (2 ^ 64) (lit< tt) p));
}

pub stream-block : (rounds : ℕ) (mask tag : List ℕ) → Block mask → Bytes tag → (i : ℕ) → i < 2 ^ 64 → Block (stream_at rounds mask tag i)
unfolding stream_at
stream-block rounds mask tag m h i p = (cipher-undo rounds mask m).forth-keeps (counter tag i) (counter-block tag h i p)

-- ---- two streams

-- the blocks of both, xored
unfoldable pub both_at : (ℕ → List ℕ) → (ℕ → List ℕ) → ℕ → List ℕ
both_at k l i = xor_block (k i) (l i)

xor_bytes-assoc : (s a b : List ℕ) → length s ≤ length a → xor_bytes (xor_bytes s a) b ≡ xor_bytes s (xor_bytes a b)
unfolding xor_bytes xor_at
xor_bytes-assoc s a b h =
    ap (tab (xor_at (xor_bytes s a) b)) (length-xor_bytes s a)
    ∙ tab-ext (xor_at (xor_bytes s a) b) (xor_at s (xor_bytes a b)) (length s)
    (λ i p. ap (λ (x : ℕ). bit_xor x (get_or b i 0)) (get_or-tab (xor_at s a) (length s) i p)
    ∙ xor_assoc (get_or s i 0) (get_or a i 0) (get_or b i 0)
    ∙ ap (bit_xor (get_or s i 0)) (sym (get_or-tab (xor_at a b) (length a) i (omega arith))))

module _ (k l : ℕ → List ℕ) (s : List ℕ) (h : Bytes s) where
  -- bytes xored with block i of both, one after the other
  both_bytes : (i : ℕ) (t : List ℕ) → length t ≤ 128 → xor_bytes (xor_bytes t (bytes_of (k i))) (bytes_of (l i)) ≡ xor_bytes t (bytes_of (both_at k l i))
  unfolding both_at
  both_bytes i t p =
      xor_bytes-assoc t (bytes_of (k i)) (bytes_of (l i)) (rw (length-bytes_of (k i)) p) ∙ ap (xor_bytes t) (sym (bytes_of-xor (k i) (l i)))

  -- what the first stream makes
  abbrev between : List ℕ
  between = ciphered (xored (formed k)) (formed k) s

  between-at : (i : ℕ) → i < whole s → bytes_at (xored l) between i ≡ bytes_at (xored (both_at k l)) s i
  unfolding bytes_at made_at xored
  between-at i p =
      let b = block_at s i in
      let block = block_at-ciphered (xored (formed k)) (formed k) s i p (xor-block b (formed k i) (block-block_at s i h) (formed-block k i)) in
      ap (λ (c : List ℕ). bytes_of (xor_block c (l i))) block ∙ bytes_of-xor (xor_block b (formed k i)) (l i)
      ∙ ap (λ (c : List ℕ). xor_bytes c (bytes_of (l i))) (bytes_of-xor b (formed k i) ∙ ap (xor_bytes (bytes_of b)) (formed-bytes k i))
      ∙ both_bytes i (bytes_of b) (rw (length-bytes_of b) (omega arith)) ∙ sym (bytes_of-xor b (both_at k l i))

  -- one stream after the other is both at once
  pub xored-twice : ciphered (xored l) l (ciphered (xored k) k s) ≡ ciphered (xored (both_at k l)) (both_at k l) s
  unfolding ciphered bytes_at made_at
  xored-twice =
      ap (ciphered (xored l) l) (xored-formed k s)
      ∙ ap₂ (λ (a b : List ℕ). a ++ b)
      (ap (cat (bytes_at (xored l) between)) (whole-ciphered (xored (formed k)) (formed k) s) ∙ cat-ext (bytes_at (xored l) between) (bytes_at (xored (both_at k l)) s) (whole s) between-at)
      (ap₂ (λ (a : List ℕ) (n : ℕ). xor_bytes a (bytes_of (l n))) (left-ciphered (xored (formed k)) (formed k) s ∙ ap (xor_bytes (left s)) (formed-bytes k (whole s)))
      (whole-ciphered (xored (formed k)) (formed k) s) ∙ both_bytes (whole s) (left s) (omega (arith, left_lt s)))
