-- The message opened from one start and sealed from another, as one pass does it, is a pass over the message. Assumes nothing.
use mathlib.Core.Path.{◌≡◌, sym, ap, ◌∙◌}
use mathlib.Core.Bool.{true, false}
use mathlib.Core.List.{List, ◌++◌}
use Prim.Native.Nat.{ℕ, ◌-◌, ◌*◌, ◌<◌}
use lib.ListN.{length, take, drop}
use borrow.Rule.Slice.PartMut.{put_mid}
use Rattle.words.specs.Sequence.{cat, times}
use Rattle.words.specs.Block.{Block, Bytes, bytes_of, xor_block, xor_bytes, zero_block}
use Rattle.words.proofs.Lists.{cat-ext}
use Rattle.words.proofs.Blocks.{length-xor_bytes}
use Rattle.masks.specs.Steps.{beta, gamma}
use Rattle.mem.specs.Mem.{mask_at, encipher, decipher, D}
use Rattle.blockplan.specs.Plan.{whole, left, block_at, xor_over}
use Rattle.blockplan.specs.Pass.{made_at, bytes_at, plain_at, under, across, planned, stepping, Passed}
use Rattle.blockplan.proofs.Sums.{xor_over-ext}
use Rattle.blockplan.proofs.Ciphered.{length-ciphered, whole-ciphered, left-ciphered, bytes-ciphered}
use Rattle.blockplan.proofs.Passes.{stepping-planned}
use Rattle.opp.specs.Opp.{padded, open_at, opp_stream, opp_plain}
use Rattle.opp.specs.Pass.{written, AllPassed}
use Rattle.opp.proofs.Passes.{opened-at, stream-is, all_whole, all_left}

-- the masks that both sides step on from gamma of a start
stepped : (start : List ℕ) → Block start → (i : ℕ) → stepping (gamma start) i ≡ planned start 0 1 i
unfolding mask_at times
stepped start b i = stepping-planned start b 0 1 i

module _ (rounds : ℕ) (from s : List ℕ) (b : Block from) (h : Bytes s) where
  -- the message
  abbrev message : List ℕ
  message = opp_plain rounds from s

  pub message-bytes : Bytes message
  unfolding opp_plain
  message-bytes = bytes-ciphered (open_at rounds from) (opp_stream rounds from) s h

  message-length : length message ≡ length s
  unfolding opp_plain
  message-length = length-ciphered (open_at rounds from) (opp_stream rounds from) s

  message-whole : whole message ≡ whole s
  unfolding opp_plain
  message-whole = whole-ciphered (open_at rounds from) (opp_stream rounds from) s

  -- its leftover, from the mask behind the whole blocks
  message-left : (next : List ℕ) → next ≡ stepping (gamma from) (whole s) → left message ≡ xor_bytes (left s) (bytes_of (encipher rounds (beta next) zero_block))
  unfolding opp_plain
  message-left next e =
      left-ciphered (open_at rounds from) (opp_stream rounds from) s
      ∙ ap (λ (k : List ℕ). xor_bytes (left s) (bytes_of k)) (sym (stream-is rounds from s b h next (e ∙ stepped from b (whole s))))

  -- its block i
  message-at : (i : ℕ) → i < whole s → block_at message i ≡ decipher rounds (stepping (gamma from) i) (block_at s i)
  unfolding opp_plain written open_at under planned D plain_at made_at
  message-at i p = rw (stepped from b i) (opened-at rounds from s b h i p)

  module _ (to : List ℕ) (c : Block to) where
    across-at : (i : ℕ) → i < whole s
        → bytes_at (across rounds (stepping (gamma from)) (stepping (gamma to))) s i ≡ bytes_at (under false rounds (planned to 0 1)) message i
    unfolding bytes_at made_at across under
    across-at i p = rw (stepped to c i, message-at i p)

    module _ (old new sum opener sealer : List ℕ)
        (w : new ≡ cat (bytes_at (across rounds (stepping (gamma from)) (stepping (gamma to))) s) (whole s) ++ drop (128 * whole s) old)
        (e : sum ≡ xor_over (made_at (under true rounds (stepping (gamma from))) s) (whole s))
        (f : opener ≡ stepping (gamma from) (whole s)) (n : sealer ≡ stepping (gamma to) (whole s)) where
      -- the whole blocks of the message are passed
      blocks : Passed false rounds (planned to 0 1) message (whole message) old new sum sealer
      unfolding plain_at made_at under
      blocks = rw message-whole (record {
        written = w ∙ ap (λ (l : List ℕ). l ++ drop (128 * whole s) old) (cat-ext _ _ (whole s) across-at);
        summed = e ∙ xor_over-ext _ _ (whole s) (λ i p. sym (message-at i p));
        reached = n ∙ stepped to c (whole s);
      })

      -- no leftover
      pub resealed-whole : 128 * whole s ≡ length s → AllPassed false rounds to message old new sum sealer
      resealed-whole q =
          let same : 128 * whole message ≡ length message = rw (message-whole, message-length) q in
          all_whole rounds to message c message-bytes false old new sum sealer blocks same

      -- the leftover as it was opened
      abbrev pub plain : List ℕ
      plain = xor_bytes (left s) (bytes_of (encipher rounds (beta opener) zero_block))

      -- a leftover
      pub resealed-left : (ys check mask : List ℕ) → (128 * whole s ≡ length s → ⊥)
          → ys ≡ xor_bytes plain (bytes_of (encipher rounds (beta sealer) zero_block)) ++ drop (length (left s)) (take (length new - 128 * whole s) (drop (128 * whole s) new))
          → check ≡ xor_block sum (padded plain) → mask ≡ beta sealer
          → AllPassed false rounds to message old (put_mid (128 * whole s) (length new - 128 * whole s) new ys) check mask
      resealed-left ys check mask q y k m =
          let long : length plain ≡ length (left s) = length-xor_bytes (left s) (bytes_of (encipher rounds (beta opener) zero_block)) in
          rw message-whole at
          (all_left rounds to message c message-bytes false old new sum sealer blocks ys check mask (λ r. q (rw (message-whole, message-length) at r))
          (rw (message-whole, message-left opener f, long) y) (rw (message-left opener f) k) m)
