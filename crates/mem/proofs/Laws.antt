-- Laws of the masks (i, j, k), of E and of D. Assumes nothing.
use mathlib.Core.Path.{◌≡◌, refl, sym, ap, ◌∙◌}
use mathlib.Core.List.{List, ◌∷◌, ◌++◌}
use Prim.Native.Nat.{ℕ, zero, suc, ◌%◌, ◌^◌, ◌<◌}
use native.Mathlib.Nat.{mod-lt}
use lib.Dec.{lit<}
use lib.ListN.{get_or, length-append}
use Rattle.words.specs.Sequence.{tab, times, zeros}
use Rattle.words.specs.Block.{Block, Bytes, word_at, xor_block}
use Rattle.words.specs.Undo.{Undo}
use Rattle.words.proofs.Lists.{length-tab, below-append}
use Rattle.words.proofs.Blocks.{xor-block, xor_block-cancel, below-tab, word_at-lt}
use Rattle.words.proofs.Times.{times-keeps, times-commute}
use Rattle.words.proofs.Maps.{undo-then}
use Rattle.permutation.proofs.Undone.{perm-undo, perm-block}
use Rattle.masks.specs.Steps.{alpha, beta, gamma}
use Rattle.masks.proofs.Laws.{alpha-block, beta-block, gamma-block, alpha-beta, alpha-gamma, beta-gamma}
use Rattle.mem.specs.Mem.{start_words, start_block, start_of, old_start_block, old_start_of, mask_at, encipher, decipher, E, D}

-- ---- masks

pub mask-block : (start : List ℕ) → Block start → (i j k : ℕ) → Block (mask_at start i j k)
unfolding mask_at
mask-block start b i j k =
    times-keeps Block gamma gamma-block k (times beta j (times alpha i start))
    (times-keeps Block beta beta-block j (times alpha i start) (times-keeps Block alpha alpha-block i start b))

-- alpha steps may come last: the mask (i, j, k) is reached from (0, j, k) by i of them
pub mask-alpha : (start : List ℕ) → Block start → (i j k : ℕ) → mask_at start i j k ≡ times alpha i (mask_at start 0 j k)
unfolding mask_at times
mask-alpha start b zero j k = refl
mask-alpha start b (suc i) j k =
    let one = times alpha i start in
    let one_block = times-keeps Block alpha alpha-block i start b in
    ap (times gamma k) (sym (times-commute Block beta beta-block alpha alpha-beta j one one_block))
    ∙ sym (times-commute Block gamma gamma-block alpha alpha-gamma k (times beta j one) (times-keeps Block beta beta-block j one one_block))
    ∙ ap alpha (mask-alpha start b i j k)

-- and so may beta steps: one more of them
pub mask-beta : (start : List ℕ) → Block start → (i j k : ℕ) → beta (mask_at start i j k) ≡ mask_at start i (suc j) k
unfolding mask_at times
mask-beta start b i j k =
    let one = times alpha i start in
    times-commute Block gamma gamma-block beta beta-gamma k (times beta j one)
    (times-keeps Block beta beta-block j one (times-keeps Block alpha alpha-block i start b))

-- ---- E and D

-- exclusive or with a mask undoes itself
pub xor-undo : (mask : List ℕ) → Block mask → Undo Block (λ b. xor_block b mask) (λ b. xor_block b mask)
xor-undo mask m = record {
  forth-keeps = λ b h. xor-block b mask h m;
  back-keeps = λ b h. xor-block b mask h m;
  back-forth = λ b h. xor_block-cancel b mask h;
  forth-back = λ b h. xor_block-cancel b mask h;
}

pub cipher-undo : (n : ℕ) (mask : List ℕ) → Block mask → Undo Block (encipher n mask) (decipher n mask)
unfolding encipher decipher
cipher-undo n mask m = undo-then (xor-undo mask m) (undo-then (perm-undo n) (xor-undo mask m))

pub E-undo : (n : ℕ) (start : List ℕ) → Block start → (i j k : ℕ) → Undo Block (E n start i j k) (D n start i j k)
unfolding E D
E-undo n start b i j k = cipher-undo n (mask_at start i j k) (mask-block start b i j k)

-- ---- the starts

below-cons : (m x : ℕ) (s : List ℕ) → x < m → ((i : ℕ) → get_or s i 0 < m) → (i : ℕ) → get_or (x ∷ s) i 0 < m
below-cons m x s h hs zero = h
below-cons m x s h hs (suc i) = hs i

-- what P is taken of is a block, where the two words as given are words
words-block : (w10 w11 : ℕ) (key nonce : List ℕ) → w10 < 2 ^ 64 → w11 < 2 ^ 64 → Bytes key → Bytes nonce → Block (start_words w10 w11 key nonce)
unfolding start_words zeros
words-block w10 w11 key nonce h10 h11 hk hn = record {
  long = simp (length-append, length-tab);
  words = below-append (2 ^ 64) (tab (word_at nonce) 2) (tab (λ i. 0) 8 ++ (w10 ∷ w11 ∷ tab (word_at key) 4))
      (below-tab (word_at nonce) 2 (2 ^ 64) (lit< tt) (λ i p. word_at-lt nonce i hn))
      (below-append (2 ^ 64) (tab (λ i. 0) 8) (w10 ∷ w11 ∷ tab (word_at key) 4) (below-tab (λ i. 0) 8 (2 ^ 64) (lit< tt) (λ i p. lit< tt))
      (below-cons (2 ^ 64) w10 (w11 ∷ tab (word_at key) 4) h10 (below-cons (2 ^ 64) w11 (tab (word_at key) 4) h11 (below-tab (word_at key) 4 (2 ^ 64) (lit< tt) (λ i p. word_at-lt key i hk)))));
}

pub start-block : (rounds : ℕ) (key nonce : List ℕ) → Bytes key → Bytes nonce → Block (start_of rounds key nonce)
unfolding start_of start_block
start-block rounds key nonce hk hn =
    perm-block rounds (start_words (rounds % 2 ^ 64) 256 key nonce) (words-block (rounds % 2 ^ 64) 256 key nonce (mod-lt rounds (lit< tt)) (lit< tt) hk hn)

pub old-start-block : (rounds : ℕ) (key nonce : List ℕ) → Bytes key → Bytes nonce → Block (old_start_of rounds key nonce)
unfolding old_start_of old_start_block
old-start-block rounds key nonce hk hn = perm-block rounds (start_words 0 0 key nonce) (words-block 0 0 key nonce (lit< tt) (lit< tt) hk hn)
