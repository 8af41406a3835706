-- Laws of whole blocks and the leftover of any bytes. Assumes nothing.
use mathlib.Core.Path.{◌≡◌, refl, ◌∙◌}
use mathlib.Core.Bool.{true, false}
use mathlib.Core.List.{List, [], ◌∷◌, ◌++◌}
use Prim.Native.Nat.{ℕ, zero, suc, ◌+◌, ◌-◌, ◌*◌, ◌≤◌, ◌<◌}
use native.Mathlib.Omega.{arith}
use lib.ListN.{length, get_or, drop, set, length-append, length-drop, drop_of_length-le}
use lib.Seq.{get_or-drop}
use borrow.Author.Tests.{lt-ltb, le-ltb}
use Rattle.words.specs.Sequence.{tab, zeros}
use Rattle.words.specs.Block.{Block, Bytes, block_of}
use Rattle.words.proofs.Lists.{length-tab, extended, get_or-zeros, zeros-more}
use Rattle.words.proofs.Blocks.{bytes_drop, block-block_of, block_of-ext}
use Rattle.blockplan.specs.Plan.{whole, left, has_left, block_at}

pub whole_le : (s : List ℕ) → 128 * whole s ≤ length s
unfolding whole
whole_le s = omega arith

pub length-left : (s : List ℕ) → length (left s) ≡ length s - 128 * whole s
unfolding left
length-left s = length-drop (128 * whole s) s

pub left_lt : (s : List ℕ) → length (left s) < 128
unfolding whole
left_lt s = omega (arith, length-left s)

pub bytes_left : (s : List ℕ) → Bytes s → Bytes (left s)
unfolding left
bytes_left s h = bytes_drop (128 * whole s) s h

pub block-block_at : (s : List ℕ) (i : ℕ) → Bytes s → Block (block_at s i)
unfolding block_at
block-block_at s i h = block-block_of (drop (128 * i) s) (bytes_drop (128 * i) s h)

-- the number of whole blocks, where that many were taken off and fewer than 128 bytes are left
pub whole_is : (s : List ℕ) (i r : ℕ) → 128 * i + r ≡ length s → r < 128 → i ≡ whole s
unfolding whole
whole_is s i r e h = omega arith

module _ (s : List ℕ) where
  pub no-left : 128 * whole s ≡ length s → has_left s ≡ false
  unfolding has_left
  no-left e = le-ltb 0 (length (left s)) (rw (length-left s) (omega arith))

  pub some_left : (128 * whole s ≡ length s → ⊥) → has_left s ≡ true
  unfolding has_left whole
  some_left q = lt-ltb 0 (length (left s)) (rw (length-left s) (omega arith))

  pub left-none : 128 * whole s ≡ length s → left s ≡ []
  unfolding left
  left-none e = drop_of_length-le s {i = 128 * whole s} (omega arith)

-- a zero byte more is the same block
pub padded-zero : (s : List ℕ) → block_of (s ++ (0 ∷ [])) ≡ block_of s
unfolding zeros tab
padded-zero s = block_of-ext (s ++ zeros 1) s (zeros-more s 1)

length-zeros : (k : ℕ) → length (zeros k) ≡ k
unfolding zeros
length-zeros k = length-tab (λ i. 0) k

-- zeros behind read the same
zeros-behind : (s u : List ℕ) → ((i : ℕ) → get_or u i 0 ≡ 0) → (i : ℕ) → get_or (s ++ u) i 0 ≡ get_or s i 0
zeros-behind [] u h i = h i
zeros-behind (x ∷ xs) u h zero = refl
zeros-behind (x ∷ xs) u h (suc i) = zeros-behind xs u h i

-- so do the zeros that are left of k, where the front was written over
module _ (s : List ℕ) (n k : ℕ) where
  rest-zero : (i : ℕ) → get_or (s ++ drop n (zeros k)) i 0 ≡ get_or s i 0
  rest-zero = zeros-behind s (drop n (zeros k)) (λ i. get_or-drop n (zeros k) i 0 ∙ get_or-zeros k (n + i))

  pub padded-rest : block_of (s ++ drop n (zeros k)) ≡ block_of s
  padded-rest = block_of-ext (s ++ drop n (zeros k)) s rest-zero

-- and one more byte put behind that front
pub padded-set : (s : List ℕ) (v k : ℕ) → length s < k → block_of (set (s ++ drop (length s) (zeros k)) (length s) v) ≡ block_of (s ++ (v ∷ []))
padded-set s v k h =
    let xs = s ++ drop (length s) (zeros k) in
    let long : length s < length xs = simp (length-append, length-drop, length-zeros) (omega arith) in
    block_of-ext _ _ (extended xs s v long (rest-zero s (length s) k))
