-- The pass over the message: what it writes and checks, with a leftover and without, and the tag that it leads to. Assumes nothing.
use mathlib.Core.Path.{◌≡◌, refl, ap, ap₂, ◌∙◌}
use mathlib.Core.Bool.{Bool, true, false, cond}
use mathlib.Core.List.{List, ◌++◌}
use Prim.Native.Nat.{ℕ, ◌-◌, ◌*◌, ◌<◌}
use lib.ListN.{length, take, drop}
use borrow.Rule.Slice.PartMut.{put_mid}
use Rattle.words.specs.Sequence.{times}
use Rattle.words.specs.Block.{Block, Bytes, bytes_of, xor_block, xor_bytes, zero_block}
use Rattle.masks.specs.Steps.{beta, gamma}
use Rattle.mem.specs.Mem.{mask_at, encipher, E}
use Rattle.mem.proofs.Laws.{mask-beta, E-undo}
use Rattle.blockplan.specs.Plan.{whole, left, has_left, block_at, xor_over, xor_if, tag_bytes}
use Rattle.blockplan.specs.Pass.{made_at, plain_at, under, planned, stepping, Passed}
use Rattle.blockplan.proofs.Sums.{xor_over-ext}
use Rattle.blockplan.proofs.Leftovers.{no-left, some_left, block-block_at}
use Rattle.blockplan.proofs.Ciphered.{whole-ciphered, left-ciphered, has_left-ciphered, block_at-ciphered, written-whole, written-left}
use Rattle.blockplan.proofs.Passes.{under-planned, stepping-planned, passed-agree}
use Rattle.opp.specs.Opp.{padded, opp_stream, opp_sum, opp_check, opp_tag}
use Rattle.opp.specs.Pass.{written, plain, AllPassed}

module _ (rounds : ℕ) (start s : List ℕ) (l : Block start) where
  -- E(i, 0, 1) of block i, or D(i, 0, 1)
  abbrev turn : Bool → ℕ → List ℕ → List ℕ
  turn opening = under opening rounds (planned start 0 1)

  -- masks stepped on from gamma of the start are those of the plan
  pub blocks-planned : (opening : Bool) {old new sum next : List ℕ} → Passed opening rounds (stepping (gamma start)) s (whole s) old new sum next
      → Passed opening rounds (planned start 0 1) s (whole s) old new sum next
  unfolding mask_at times
  blocks-planned opening p = passed-agree opening rounds (stepping (gamma start)) (planned start 0 1) s (whole s) (λ i h. stepping-planned start l 0 1 i) p

  module _ (h : Bytes s) where
    -- block i of the message that a pass opens
    pub opened-at : (i : ℕ) → i < whole s → block_at (written true rounds start s) i ≡ plain_at true (turn true) s i
    unfolding written plain_at made_at
    opened-at i p =
        block_at-ciphered (turn true) (opp_stream rounds start) s i p
        (rw (under-planned true rounds start i 0 1 (block_at s i)) ((E-undo rounds start l i 0 1).back-keeps (block_at s i) (block-block_at s i h)))

    -- Check over the message, from what the pass has in hand
    check-is : (opening : Bool) → opp_check (plain opening rounds start s)
        ≡ xor_if (has_left s) (xor_over (plain_at opening (turn opening) s) (whole s))
        (padded (cond opening (xor_bytes (left s) (bytes_of (opp_stream rounds start (whole s)))) (left s)))
    unfolding plain written opp_check plain_at
    check-is true =
        rw (
          has_left-ciphered (turn true) (opp_stream rounds start) s,
          whole-ciphered (turn true) (opp_stream rounds start) s,
          left-ciphered (turn true) (opp_stream rounds start) s,
          xor_over-ext (block_at (written true rounds start s)) (plain_at true (turn true) s) (whole s) opened-at,
        )
    check-is false = refl

    -- the leftover's stream, from the mask behind the whole blocks
    mask-left : (next : List ℕ) → next ≡ planned start 0 1 (whole s) → beta next ≡ mask_at start (whole s) 1 1
    unfolding planned
    mask-left next e = ap beta e ∙ mask-beta start l (whole s) 0 1

    pub stream-is : (next : List ℕ) → next ≡ planned start 0 1 (whole s) → encipher rounds (beta next) zero_block ≡ opp_stream rounds start (whole s)
    unfolding opp_stream E
    stream-is next e = ap (λ (m : List ℕ). encipher rounds m zero_block) (mask-left next e)

    -- ---- after the whole blocks

    module _ (opening : Bool) (old new sum next : List ℕ) (p : Passed opening rounds (planned start 0 1) s (whole s) old new sum next) where
      -- no leftover
      pub all_whole : 128 * whole s ≡ length s → AllPassed opening rounds start s old new sum next
      unfolding written planned xor_if
      all_whole e = record {
        all-written = written-whole (turn opening) (opp_stream rounds start) s old new p.written e;
        all-checked = p.summed ∙ rw (check-is opening, no-left s e);
        last-mask = p.reached ∙ rw (no-left s e);
      }

      -- the leftover as it was written
      abbrev pub made : List ℕ
      made = xor_bytes (left s) (bytes_of (encipher rounds (beta next) zero_block))

      -- a leftover
      pub all_left : (ys check mask : List ℕ) → (128 * whole s ≡ length s → ⊥)
          → ys ≡ made ++ drop (length (left s)) (take (length new - 128 * whole s) (drop (128 * whole s) new))
          → check ≡ xor_block sum (padded (cond opening made (left s))) → mask ≡ beta next
          → AllPassed opening rounds start s old (put_mid (128 * whole s) (length new - 128 * whole s) new ys) check mask
      unfolding written xor_if
      all_left ys check mask q w a m = record {
        all-written = written-left (turn opening) (opp_stream rounds start) s old new p.written ys (rw (stream-is next p.reached) at w);
        all-checked = a ∙ rw (check-is opening, some_left s q, stream-is next p.reached, p.summed);
        last-mask = m ∙ rw (some_left s q) (mask-left next p.reached);
      }

    -- ---- the tag

    whole_plain : (opening : Bool) → whole (plain opening rounds start s) ≡ whole s
    unfolding plain written
    whole_plain true = whole-ciphered (turn true) (opp_stream rounds start) s
    whole_plain false = refl

    has_left-plain : (opening : Bool) → has_left (plain opening rounds start s) ≡ has_left s
    unfolding plain written
    has_left-plain true = has_left-ciphered (turn true) (opp_stream rounds start) s
    has_left-plain false = refl

    -- two beta steps on from the message's last mask
    two-on : (more : Bool) → beta (beta (mask_at start (whole s) (cond more 1 0) 1)) ≡ mask_at start (whole s) (cond more 3 2) 1
    two-on true = ap beta (mask-beta start l (whole s) 1 1) ∙ mask-beta start l (whole s) 2 1
    two-on false = ap beta (mask-beta start l (whole s) 0 1) ∙ mask-beta start l (whole s) 1 1

    -- the tag, from a block made of the sum, the tag's mask and the check
    pub tag-from : (opening : Bool) (header block : List ℕ) {check mask : List ℕ} → check ≡ opp_check (plain opening rounds start s)
        → mask ≡ mask_at start (whole s) (cond (has_left s) 3 2) 1 → block ≡ xor_block (opp_sum rounds start header) (encipher rounds mask check)
        → tag_bytes block ≡ opp_tag rounds start header (plain opening rounds start s)
    unfolding opp_tag E
    tag-from opening header block {check} {mask} k m e =
        let at : mask ≡ mask_at start (whole (plain opening rounds start s)) (cond (has_left (plain opening rounds start s)) 3 2) 1 =
        rw (m, whole_plain opening, has_left-plain opening) in
        ap tag_bytes (e ∙ ap₂ (λ (n b : List ℕ). xor_block (opp_sum rounds start header) (encipher rounds n b)) at k)

    -- the same from the message's last mask
    pub tag_is : (opening : Bool) (header block : List ℕ) {check mask : List ℕ} → check ≡ opp_check (plain opening rounds start s)
        → mask ≡ mask_at start (whole s) (cond (has_left s) 1 0) 1 → block ≡ xor_block (opp_sum rounds start header) (encipher rounds (beta (beta mask)) check)
        → tag_bytes block ≡ opp_tag rounds start header (plain opening rounds start s)
    tag_is opening header block k m e = tag-from opening header block k (ap (λ (n : List ℕ). beta (beta n)) m ∙ two-on (has_left s)) e
