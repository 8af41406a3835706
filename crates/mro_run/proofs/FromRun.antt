-- The plan of MRO under masks out of a run. Assumes nothing.
use mathlib.Core.Path.{◌≡◌, ap, ap₂, ◌∙◌}
use mathlib.Core.Bool.{Bool, true, false, cond}
use mathlib.Core.List.{List, ◌++◌}
use Prim.Native.Nat.{ℕ, suc, ◌+◌, ◌*◌, ◌≤◌}
use native.Mathlib.Omega.{arith}
use lib.ListN.{length, take, drop}
use Rattle.words.specs.Sequence.{cat}
use Rattle.words.specs.Block.{Block, bytes_of, xor_block}
use Rattle.masks.specs.Run.{mask_from, IsRun}
use Rattle.mem.specs.Mem.{encipher, E}
use Rattle.runs.proofs.Planned.{plan-alpha, plan-beta, plan-gamma}
use Rattle.blockplan.specs.Plan.{whole, has_left, absorb_at, xor_over, ciphered}
use Rattle.blockplan.specs.Pass.{made_at, bytes_at, under, planned}
use Rattle.blockplan.proofs.Passes.{sum-agree}
use Rattle.quads.proofs.Moved.{block-moved, ciphered-joined}
use Rattle.mro.specs.Mro.{blocks, counter, mro_sum, mro_stream, streamed, mro_cipher}
use Rattle.mro.specs.Streams.{stream_from, streamed_from, xored}
use Rattle.mro.proofs.Streams.{stream_at, from_first}

-- a padded block more, or none
one_more : (b : Bool) (n : ℕ) → cond b (suc n) n ≤ n + 1
one_more true n = omega arith
one_more false n = omega arith

module _ (w : List ℕ) (is : IsRun w) (b : Block (take 16 w)) where
  -- the sums
  module _ (rounds : ℕ) (header message : List ℕ) (h : whole header + 21 ≤ length w) (m : whole message + 21 ≤ length w) where
    pub sum-from-run : xor_block (xor_over (made_at (under false rounds (mask_from 0 w)) header) (blocks header)) (xor_over (made_at (under false rounds (mask_from 1 w)) message) (blocks message))
        ≡ mro_sum rounds (take 16 w) header message
    unfolding mro_sum blocks absorb_at made_at under planned E
    sum-from-run =
        ap₂ xor_block
        (sum-agree false rounds (mask_from 0 w) (planned (take 16 w) 0 0) header (blocks header) (λ i p. plan-alpha w is b i (omega (arith, one_more (has_left header) (whole header)))))
        (sum-agree false rounds (mask_from 1 w) (planned (take 16 w) 1 0) message (blocks message) (λ i p. plan-beta w is b i (omega (arith, one_more (has_left message) (whole message)))))

  -- the whole stream
  pub stream-from-run : (rounds : ℕ) (tag s mask : List ℕ) → 21 ≤ length w → mask ≡ mask_from 2 w 0
      → ciphered (streamed_from rounds mask tag 0) (stream_from rounds mask tag 0) s ≡ mro_cipher rounds (take 16 w) tag s
  unfolding mro_cipher streamed mro_stream E xored stream_at
  stream-from-run rounds tag s mask h e = from_first rounds mask tag s ∙ rw (e, plan-gamma w is b 0 (omega arith))

-- ---- the stream from a block on

stream-later : (rounds : ℕ) (mask tag : List ℕ) (n j : ℕ) → stream_from rounds mask tag n j ≡ stream_from rounds mask tag 0 (n + j)
unfolding stream_from
stream-later rounds mask tag n j = let e : n + j ≡ 0 + (n + j) = omega arith in ap (λ (k : ℕ). encipher rounds mask (counter tag k)) e

-- the part's bytes are bytes further on
pub bytes-later : (rounds : ℕ) (mask tag s : List ℕ) (n j : ℕ) → bytes_at (streamed_from rounds mask tag n) (drop (128 * n) s) j ≡ bytes_at (streamed_from rounds mask tag 0) s (n + j)
unfolding bytes_at made_at streamed_from
bytes-later rounds mask tag s n j = ap₂ (λ (b k : List ℕ). bytes_of (xor_block b k)) (block-moved s n j) (stream-later rounds mask tag n j)

-- the fours, and behind them the rest
pub streams-joined : (rounds : ℕ) (mask tag s : List ℕ) (n : ℕ) → n ≤ whole s
    → cat (bytes_at (streamed_from rounds mask tag 0) s) n ++ ciphered (streamed_from rounds mask tag n) (stream_from rounds mask tag n) (drop (128 * n) s)
    ≡ ciphered (streamed_from rounds mask tag 0) (stream_from rounds mask tag 0) s
unfolding streamed_from
streams-joined rounds mask tag s n h =
    ciphered-joined (streamed_from rounds mask tag 0) (streamed_from rounds mask tag n) (stream_from rounds mask tag 0) (stream_from rounds mask tag n) s n h
    (λ j b. ap (xor_block b) (stream-later rounds mask tag n j)) (stream-later rounds mask tag n)
