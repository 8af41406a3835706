-- Laws of a pass over whole blocks, whatever function gives their masks. Assumes nothing.
use mathlib.Core.Path.{◌≡◌, refl, sym, ap, ◌∙◌}
use mathlib.Core.Bool.{Bool, false, cond}
use mathlib.Core.List.{List, ◌++◌, append_assoc}
use Prim.Native.Nat.{ℕ, ◌+◌, ◌-◌, ◌*◌, ◌≤◌, ◌<◌}
use native.Mathlib.Nat.{add-zero}
use native.Mathlib.Omega.{arith}
use lib.ListN.{length, take, drop}
use borrow.Rule.Slice.PartMut.{put_mid}
use Rattle.words.specs.Sequence.{cat, fold}
use Rattle.words.specs.Block.{Block, bytes_of, xor_block, zero_block}
use Rattle.words.proofs.Lists.{cat-ext, cat-add, fronted, timesed}
use Rattle.masks.specs.Steps.{alpha}
use Rattle.mem.specs.Mem.{mask_at, E, D}
use Rattle.mem.proofs.Laws.{mask-alpha}
use Rattle.blockplan.specs.Plan.{block_at, absorb_at, xor_over}
use Rattle.blockplan.specs.Pass.{made_at, bytes_at, plain_at, under, planned, stepping, Passed}
use Rattle.blockplan.proofs.Sums.{summed-more, xor_over-ext}
use Rattle.blockplan.proofs.Ciphered.{front_length}

-- ---- which masks

-- under the plan's masks a block becomes E(i, j, k) of it, or D(i, j, k)
pub under-planned : (opening : Bool) (rounds : ℕ) (start : List ℕ) (i j k : ℕ) (block : List ℕ)
    → under opening rounds (planned start j k) i block ≡ cond opening (D rounds start i j k block) (E rounds start i j k block)
unfolding under planned E D
under-planned opening rounds start i j k block = refl

-- masks that step on from (0, j, k) are the plan's
pub stepping-planned : (start : List ℕ) → Block start → (j k i : ℕ) → stepping (mask_at start 0 j k) i ≡ planned start j k i
unfolding stepping planned
stepping-planned start b j k i = sym (mask-alpha start b i j k)

-- a step more
pub stepping-on : (first mask next : List ℕ) (i : ℕ) → mask ≡ stepping first i → next ≡ alpha mask → next ≡ stepping first (i + 1)
unfolding stepping
stepping-on first mask next i e q = timesed alpha first i mask next e q

-- ---- where two functions give the same masks, all is the same

module _ (opening : Bool) (rounds : ℕ) (f g : ℕ → List ℕ) (s : List ℕ) (n : ℕ) (agree : (i : ℕ) → i < n → f i ≡ g i) where
  made-agree : (i : ℕ) → i < n → made_at (under opening rounds f) s i ≡ made_at (under opening rounds g) s i
  unfolding made_at under
  made-agree i p = rw (agree i p)

  pub bytes-agree : cat (bytes_at (under opening rounds f) s) n ≡ cat (bytes_at (under opening rounds g) s) n
  unfolding bytes_at
  bytes-agree = cat-ext (bytes_at (under opening rounds f) s) (bytes_at (under opening rounds g) s) n (λ i p. ap bytes_of (made-agree i p))

  pub sum-agree : xor_over (made_at (under opening rounds f) s) n ≡ xor_over (made_at (under opening rounds g) s) n
  sum-agree = xor_over-ext (made_at (under opening rounds f) s) (made_at (under opening rounds g) s) n made-agree

  pub plain-agree : xor_over (plain_at opening (under opening rounds f) s) n ≡ xor_over (plain_at opening (under opening rounds g) s) n
  unfolding plain_at
  plain-agree =
      xor_over-ext (plain_at opening (under opening rounds f) s) (plain_at opening (under opening rounds g) s) n
      (λ i p. ap (λ (b : List ℕ). cond opening b (block_at s i)) (made-agree i p))

-- E(i, j, 0) of each block, by alpha steps from the mask (0, j, 0)
pub absorbed : (rounds : ℕ) (start : List ℕ) (j : ℕ) (s : List ℕ) (n : ℕ) → Block start
    → xor_over (made_at (under false rounds (stepping (mask_at start 0 j 0))) s) n ≡ xor_over (absorb_at rounds start j s) n
unfolding absorb_at made_at under planned E
absorbed rounds start j s n b = sum-agree false rounds (stepping (mask_at start 0 j 0)) (planned start j 0) s n (λ i h. stepping-planned start b j 0 i)

pub passed-agree : (opening : Bool) (rounds : ℕ) (f g : ℕ → List ℕ) (s : List ℕ) (n : ℕ) {old new sum next : List ℕ} → ((i : ℕ) → i ≤ n → f i ≡ g i)
    → Passed opening rounds f s n old new sum next → Passed opening rounds g s n old new sum next
passed-agree opening rounds f g s n {old} agree p =
    let below : (i : ℕ) → i < n → f i ≡ g i = λ i h. agree i (omega arith) in record {
      written = p.written ∙ ap (λ (l : List ℕ). l ++ drop (128 * n) old) (bytes-agree opening rounds f g s n below);
      summed = p.summed ∙ plain-agree opening rounds f g s n below;
      reached = p.reached ∙ agree n (omega arith);
    }

-- ---- one block after the other, or several at a time

module _ (opening : Bool) (rounds : ℕ) (mask : ℕ → List ℕ) (s : List ℕ) where
  pub passed_none : (old sum : List ℕ) → sum ≡ zero_block → Passed opening rounds mask s 0 old old sum (mask 0)
  unfolding cat xor_over fold
  passed_none old sum e = record { written = refl; summed = e; reached = refl }

  -- the bytes of block i, and the block that the sum takes in
  abbrev made : ℕ → List ℕ
  made = bytes_at (under opening rounds mask) s

  abbrev plain : ℕ → List ℕ
  plain = plain_at opening (under opening rounds mask) s

  module _ (i : ℕ) (old xs ys sum more at next : List ℕ) (p : Passed opening rounds mask s i old xs sum at) where
    -- what came to the front of the part behind the blocks before
    abbrev behind : ℕ → List ℕ
    behind w = drop w (take (length xs - 128 * i) (drop (128 * i) xs))

    pub passed-more : (k : ℕ) → ys ≡ cat (λ j. made (i + j)) k ++ behind (128 * k) → more ≡ fold (λ j t. xor_block t (plain (i + j))) sum k → next ≡ mask (i + k)
        → Passed opening rounds mask s (i + k) old (put_mid (128 * i) (length xs - 128 * i) xs ys) more next
    passed-more k w a r =
        let far : 128 * i + 128 * k ≡ 128 * (i + k) = omega arith in record {
          written = fronted (128 * i) (128 * k) (cat made i) (cat (λ j. made (i + j)) k) old xs ys (front_length (under opening rounds mask) s i) p.written w
              ∙ rw (far, cat-add made i k, append_assoc);
          summed = a ∙ summed-more plain i k sum p.summed;
          reached = r;
        }

    pub passed-one : ys ≡ made i ++ behind 128 → more ≡ xor_block sum (plain i) → next ≡ mask (i + 1)
        → Passed opening rounds mask s (i + 1) old (put_mid (128 * i) (length xs - 128 * i) xs ys) more next
    unfolding cat fold
    passed-one w a r = passed-more 1 (rw (add-zero i) w) (rw (add-zero i) a) r

    pub passed-two : ys ≡ made i ++ (made (i + 1) ++ behind 256) → more ≡ xor_block (xor_block sum (plain i)) (plain (i + 1)) → next ≡ mask (i + 2)
        → Passed opening rounds mask s (i + 2) old (put_mid (128 * i) (length xs - 128 * i) xs ys) more next
    unfolding cat fold
    passed-two w a r = passed-more 2 (rw (add-zero i, append_assoc) w) (rw (add-zero i) a) r
