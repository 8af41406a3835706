-- Laws of ciphered bytes: they keep their length, blocks and leftover can be read off, and what undoes each block undoes the whole. Assumes nothing.
use mathlib.Core.Path.{◌≡◌, refl, sym, ap, ap₂, ◌∙◌, subst}
use mathlib.Core.List.{List, ◌++◌, append_assoc, append-nil}
use Prim.Native.Nat.{ℕ, ◌+◌, ◌-◌, ◌*◌, ◌/◌, ◌≤◌, ◌<◌}
use native.Mathlib.Omega.{arith}
use lib.Dec.{ltb}
use lib.ListN.{length, take, drop, length-append, length-drop, take-append-drop}
use lib.Seq.{drop_at}
use borrow.Rule.Slice.PartMut.{put_mid}
use Rattle.words.specs.Sequence.{tab, cat}
use Rattle.words.specs.Block.{Block, Bytes, block_of, bytes_of, xor_bytes}
use Rattle.words.specs.Undo.{Undo}
use Rattle.words.proofs.Maps.{undo-flip}
use Rattle.words.proofs.Lists.{length-cat, piece, pieces, cat-ext, fronted}
use Rattle.words.proofs.Blocks.{length-bytes_of, bytes-bytes_of, length-xor_bytes, bytes-xor_bytes, xor_bytes-cancel, bytes-append, bytes-cat, bytes_drop, block_of-bytes_of, bytes_of-block_of}
use Rattle.blockplan.specs.Plan.{whole, left, has_left, block_at, ciphered}
use Rattle.blockplan.specs.Pass.{made_at, bytes_at}
use Rattle.blockplan.proofs.Leftovers.{whole_le, length-left, bytes_left, left-none, block-block_at}

-- ---- the bytes of each block

module _ (f : ℕ → List ℕ → List ℕ) (s : List ℕ) where
  pub length-bytes_at : (i : ℕ) → length (bytes_at f s i) ≡ 128
  unfolding bytes_at
  length-bytes_at i = length-bytes_of (made_at f s i)

  pub front_length : (n : ℕ) → length (cat (bytes_at f s) n) ≡ 128 * n
  front_length n = length-cat (bytes_at f s) 128 n length-bytes_at

  bytes-bytes_at : (i : ℕ) → Bytes (bytes_at f s i)
  unfolding bytes_at
  bytes-bytes_at i = bytes-bytes_of (made_at f s i)

-- ---- all bytes

module _ (f : ℕ → List ℕ → List ℕ) (stream : ℕ → List ℕ) (s : List ℕ) where
  -- the leftover
  abbrev pub last_bytes : List ℕ
  last_bytes = xor_bytes (left s) (bytes_of (stream (whole s)))

  length-last_bytes : length last_bytes ≡ length (left s)
  length-last_bytes = length-xor_bytes (left s) (bytes_of (stream (whole s)))

  ciphered-is : ciphered f stream s ≡ cat (bytes_at f s) (whole s) ++ last_bytes
  unfolding ciphered bytes_at made_at
  ciphered-is = refl

  all : 128 * whole s + length (left s) ≡ length s
  all = rw (length-left s) (omega (arith, whole_le s))

  pub length-ciphered : length (ciphered f stream s) ≡ length s
  length-ciphered =
      ap length ciphered-is ∙ length-append (cat (bytes_at f s) (whole s)) last_bytes
      ∙ ap₂ (λ (m n : ℕ). m + n) (front_length f s (whole s)) length-last_bytes ∙ all

  pub whole-ciphered : whole (ciphered f stream s) ≡ whole s
  unfolding whole
  whole-ciphered = ap (λ (n : ℕ). n / 128) length-ciphered

  pub left-ciphered : left (ciphered f stream s) ≡ last_bytes
  unfolding left
  left-ciphered =
      ap (λ (n : ℕ). drop (128 * n) (ciphered f stream s)) whole-ciphered ∙ ap (drop (128 * whole s)) ciphered-is
      ∙ drop_at (cat (bytes_at f s) (whole s)) last_bytes (128 * whole s) (front_length f s (whole s))

  pub has_left-ciphered : has_left (ciphered f stream s) ≡ has_left s
  unfolding has_left
  has_left-ciphered = ap (λ (n : ℕ). ltb 0 n) (ap length left-ciphered ∙ length-last_bytes)

  pub block_at-ciphered : (i : ℕ) → i < whole s → Block (f i (block_at s i)) → block_at (ciphered f stream s) i ≡ f i (block_at s i)
  unfolding block_at bytes_at made_at
  block_at-ciphered i h b =
      let from = drop (128 * i) (cat (bytes_at f s) (whole s) ++ last_bytes) in
      ap (λ (l : List ℕ). block_of (drop (128 * i) l)) ciphered-is
      ∙ ap block_of (sym (take-append-drop 128 from) ∙ ap (λ (l : List ℕ). l ++ drop 128 from) (piece (bytes_at f s) 128 (whole s) i last_bytes (length-bytes_at f s) h))
      ∙ block_of-bytes_of (f i (block_at s i)) (drop 128 from) b

  pub bytes-ciphered : Bytes s → Bytes (ciphered f stream s)
  bytes-ciphered h =
      subst Bytes (sym ciphered-is)
      (bytes-append (cat (bytes_at f s) (whole s)) last_bytes
      (bytes-cat (bytes_at f s) (whole s) (bytes-bytes_at f s))
      (bytes-xor_bytes (left s) (bytes_of (stream (whole s))) (bytes_left s h) (bytes-bytes_of (stream (whole s)))))

  -- ---- written to the front of the output: the whole blocks first

  module _ (old xs : List ℕ) (e : xs ≡ cat (bytes_at f s) (whole s) ++ drop (128 * whole s) old) where
    -- nothing is left over
    pub written-whole : 128 * whole s ≡ length s → xs ≡ ciphered f stream s ++ drop (length s) old
    unfolding xor_bytes tab
    written-whole n = e ∙ rw (ciphered-is, left-none s n, append-nil, n)

    -- and then the leftover, to the part behind them
    pub written-left : (ys : List ℕ) → ys ≡ last_bytes ++ drop (length (left s)) (take (length xs - 128 * whole s) (drop (128 * whole s) xs))
        → put_mid (128 * whole s) (length xs - 128 * whole s) xs ys ≡ ciphered f stream s ++ drop (length s) old
    written-left ys q =
        fronted (128 * whole s) (length (left s)) (cat (bytes_at f s) (whole s)) last_bytes old xs ys (front_length f s (whole s)) e q
        ∙ rw (ciphered-is, append_assoc, all)

-- whole blocks and a leftover make up the bytes
pub parted : (s : List ℕ) → Bytes s → cat (λ i. bytes_of (block_at s i)) (whole s) ++ left s ≡ s
unfolding block_at left
parted s h =
    ap (λ (l : List ℕ). l ++ drop (128 * whole s) s)
    (cat-ext (λ i. bytes_of (block_of (drop (128 * i) s))) (λ i. take 128 (drop (128 * i) s)) (whole s)
    (λ i p. bytes_of-block_of (drop (128 * i) s) (bytes_drop (128 * i) s h) (subst (λ (n : ℕ). 128 ≤ n) (sym (length-drop (128 * i) s)) (omega (arith, whole_le s))))
    ∙ pieces 128 (whole s) s)
    ∙ take-append-drop (128 * whole s) s

-- what undoes each whole block undoes the whole
module _ (f h : ℕ → List ℕ → List ℕ) (stream : ℕ → List ℕ) (u : (i : ℕ) → Undo Block (f i) (h i)) (s : List ℕ) (bytes : Bytes s) where
  back_at : (i : ℕ) → i < whole s → bytes_at h (ciphered f stream s) i ≡ bytes_of (block_at s i)
  unfolding bytes_at made_at
  back_at i p =
      let b = block-block_at s i bytes in
      ap (λ (c : List ℕ). bytes_of (h i c)) (block_at-ciphered f stream s i p ((u i).forth-keeps (block_at s i) b))
      ∙ ap bytes_of ((u i).back-forth (block_at s i) b)

  ciphered-back : ciphered h stream (ciphered f stream s) ≡ s
  ciphered-back =
      let c = ciphered f stream s in
      ciphered-is h stream c
      ∙ ap₂ (λ (a b : List ℕ). a ++ b)
      (ap (cat (bytes_at h c)) (whole-ciphered f stream s) ∙ cat-ext (bytes_at h c) (λ i. bytes_of (block_at s i)) (whole s) back_at)
      (ap₂ (λ (l : List ℕ) (n : ℕ). xor_bytes l (bytes_of (stream n))) (left-ciphered f stream s) (whole-ciphered f stream s)
      ∙ xor_bytes-cancel (left s) (bytes_of (stream (whole s))))
      ∙ parted s bytes

pub ciphered-undo : (f h : ℕ → List ℕ → List ℕ) (stream : ℕ → List ℕ) → ((i : ℕ) → Undo Block (f i) (h i)) → Undo Bytes (ciphered f stream) (ciphered h stream)
ciphered-undo f h stream u = record {
  forth-keeps = bytes-ciphered f stream;
  back-keeps = bytes-ciphered h stream;
  back-forth = ciphered-back f h stream u;
  forth-back = ciphered-back h f stream (λ i. undo-flip (u i));
}
