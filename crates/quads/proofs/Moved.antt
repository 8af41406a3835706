-- The blocks of a part are blocks further on, under masks further on. Assumes nothing.
use mathlib.Core.Path.{◌≡◌, refl, sym, ap, ap₂, ◌∙◌}
use mathlib.Core.Bool.{Bool, false, cond}
use mathlib.Core.List.{List, ◌++◌, append_assoc}
use Prim.Native.Nat.{ℕ, zero, suc, ◌+◌, ◌-◌, ◌*◌, ◌/◌, ◌≤◌, ◌<◌}
use native.Mathlib.Numerals.{add-one}
use native.Mathlib.Omega.{arith}
use lib.ListN.{length, take, drop, length-drop}
use lib.Seq.{drop-drop}
use borrow.Rule.Slice.PartMut.{put_mid}
use Rattle.words.specs.Sequence.{cat, fold}
use Rattle.words.specs.Block.{bytes_of, xor_block, xor_bytes}
use Rattle.words.proofs.Lists.{length-cat, cat-ext, cat-add, fronted}
use Rattle.masks.specs.Run.{mask_from}
use Rattle.blockplan.specs.Plan.{whole, left, block_at, xor_over, ciphered}
use Rattle.blockplan.specs.Pass.{made_at, bytes_at, plain_at, under}
use Rattle.blockplan.proofs.Sums.{summed-more}
use Rattle.quads.specs.Quads.{from_run}

pub block-moved : (s : List ℕ) (n j : ℕ) → block_at (drop (128 * n) s) j ≡ block_at s (n + j)
unfolding block_at
block-moved s n j = let e : 128 * n + 128 * j ≡ 128 * (n + j) = omega arith in rw (drop-drop (128 * j) (128 * n) s, e)

pub whole-moved : (s : List ℕ) (n : ℕ) → n ≤ whole s → whole (drop (128 * n) s) ≡ whole s - n
unfolding whole
whole-moved s n h = rw (length-drop (128 * n) s) (omega arith)

-- the blocks in fours are no more than there are
pub fours-le : (s : List ℕ) → 4 * (length s / 512) ≤ whole s
unfolding whole
fours-le s = omega arith

module _ (opening : Bool) (rounds kind : ℕ) (run s : List ℕ) (n j : ℕ) where
  pub made-moved : made_at (under opening rounds (from_run kind run n)) (drop (128 * n) s) j ≡ made_at (under opening rounds (mask_from kind run)) s (n + j)
  unfolding made_at under from_run
  made-moved = rw (block-moved s n j)

  pub bytes-moved : bytes_at (under opening rounds (from_run kind run n)) (drop (128 * n) s) j ≡ bytes_at (under opening rounds (mask_from kind run)) s (n + j)
  unfolding bytes_at
  bytes-moved = ap bytes_of made-moved

  pub plain_moved : plain_at opening (under opening rounds (from_run kind run n)) (drop (128 * n) s) j ≡ plain_at opening (under opening rounds (mask_from kind run)) s (n + j)
  unfolding plain_at
  plain_moved = ap₂ (cond opening) made-moved (block-moved s n j)

-- ---- sums

pub fold-ext : (f g : ℕ → List ℕ) (sum : List ℕ) (k : ℕ) → ((j : ℕ) → j < k → f j ≡ g j) → fold (λ j t. xor_block t (f j)) sum k ≡ fold (λ j t. xor_block t (g j)) sum k
unfolding fold
fold-ext f g sum zero h = refl
fold-ext f g sum (suc k) h = ap₂ xor_block (fold-ext f g sum k (λ j p. h j (omega arith))) (h k (omega arith))

-- a block more in a sum
pub folded : (f : ℕ → List ℕ) (first sum next : List ℕ) (i : ℕ) → sum ≡ fold (λ j t. xor_block t (f j)) first i → next ≡ xor_block sum (f i)
    → next ≡ fold (λ j t. xor_block t (f j)) first (i + 1)
unfolding fold
folded f first sum next i e q = q ∙ rw (add-one, e)

-- the sum over the blocks so far, and k blocks of the part behind them
pub absorbed-more : (rounds kind : ℕ) (run s : List ℕ) (n k : ℕ) (sum more : List ℕ) → sum ≡ xor_over (made_at (under false rounds (mask_from kind run)) s) n
    → more ≡ fold (λ j t. xor_block t (made_at (under false rounds (from_run kind run n)) (drop (128 * n) s) j)) sum k
    → more ≡ xor_over (made_at (under false rounds (mask_from kind run)) s) (n + k)
absorbed-more rounds kind run s n k sum more e q =
    q
    ∙ fold-ext (made_at (under false rounds (from_run kind run n)) (drop (128 * n) s)) (λ j. made_at (under false rounds (mask_from kind run)) s (n + j)) sum k
    (λ j p. made-moved false rounds kind run s n j)
    ∙ summed-more (made_at (under false rounds (mask_from kind run)) s) n k sum e

-- ---- what is written

-- n pieces of a block's length, and k of the part behind them
pub pieces_more : (g h : ℕ → List ℕ) (n k : ℕ) (old xs ys : List ℕ) → ((j : ℕ) → length (g j) ≡ 128) → ((j : ℕ) → h j ≡ g (n + j)) → xs ≡ cat g n ++ drop (128 * n) old
    → ys ≡ cat h k ++ drop (128 * k) (take (length xs - 128 * n) (drop (128 * n) xs))
    → put_mid (128 * n) (length xs - 128 * n) xs ys ≡ cat g (n + k) ++ drop (128 * (n + k)) old
pieces_more g h n k old xs ys each same e q =
    let far : 128 * n + 128 * k ≡ 128 * (n + k) = omega arith in
    fronted (128 * n) (128 * k) (cat g n) (cat h k) old xs ys (length-cat g 128 n each) e q
    ∙ rw (far, cat-add g n k, cat-ext h (λ j. g (n + j)) k (λ j p. same j), append_assoc)

pub left-moved : (s : List ℕ) (n : ℕ) → n ≤ whole s → left (drop (128 * n) s) ≡ left s
unfolding left
left-moved s n h =
    let e : 128 * n + 128 * (whole s - n) ≡ 128 * whole s = omega (arith, h) in
    rw (whole-moved s n h, drop-drop (128 * (whole s - n)) (128 * n) s, e)

-- all bytes: the first n blocks, and the part behind them
module _ (f g : ℕ → List ℕ → List ℕ) (stream next : ℕ → List ℕ) (s : List ℕ) (n : ℕ) (h : n ≤ whole s) (later : (j : ℕ) (b : List ℕ) → g j b ≡ f (n + j) b)
    (later-stream : (j : ℕ) → next j ≡ stream (n + j)) where
  pub ciphered-joined : cat (bytes_at f s) n ++ ciphered g next (drop (128 * n) s) ≡ ciphered f stream s
  unfolding ciphered bytes_at made_at
  ciphered-joined =
      let part = drop (128 * n) s in
      let k = whole s - n in
      let e : n + k ≡ whole s = omega (arith, h) in
      let m : whole part ≡ k = whole-moved s n h in
      let piece : (i : ℕ) → List ℕ = λ i. bytes_of (f i (block_at s i)) in
      ap₂ (λ (a b : List ℕ). cat piece n ++ (a ++ b))
      (ap (cat (λ j. bytes_of (g j (block_at part j)))) m
      ∙ cat-ext (λ j. bytes_of (g j (block_at part j))) (λ j. piece (n + j)) k (λ j p. ap bytes_of (later j (block_at part j) ∙ ap (f (n + j)) (block-moved s n j))))
      (ap₂ (λ (l b : List ℕ). xor_bytes l (bytes_of b)) (left-moved s n h) (ap next m ∙ later-stream k ∙ ap stream e))
      ∙ sym (append_assoc (cat piece n) (cat (λ j. piece (n + j)) k) (xor_bytes (left s) (bytes_of (stream (whole s)))))
      ∙ ap (λ (l : List ℕ). l ++ xor_bytes (left s) (bytes_of (stream (whole s)))) (sym (cat-add piece n k) ∙ ap (cat piece) e)
