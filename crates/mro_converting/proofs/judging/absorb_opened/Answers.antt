-- One block more in each turn, and the leftover where there is one. Assumes nothing.
use mathlib.Core.Path.{◌≡◌, refl}
use Prim.Native.Nat.{ℕ, ◌*◌, ◌^◌, ◌<◌}
use native.Mathlib.Omega.{arith}
use lib.ListN.{length}
use Rattle.words.specs.Sequence.{fold, times}
use Rattle.words.specs.Block.{Block, Bytes}
use Rattle.words.proofs.Lists.{tail_part}
use Rattle.words.proofs.Arrays.{array-block}
use Rattle.masks.proofs.Laws.{gamma-block}
use Rattle.mem.specs.Mem.{mask_at, E}
use Rattle.blockplan.specs.Plan.{whole, left, block_at, tag_bytes, xor_over}
use Rattle.blockplan.specs.Pass.{made_at, stepping}
use Rattle.blockplan.proofs.Sums.{summed}
use Rattle.blockplan.proofs.Passes.{stepping-on}
use Rattle.blockplan.proofs.Tags.{bytes-tag_bytes}
use Rattle.mro.specs.Mro.{mro_stream, streamed, mro_cipher}
use Rattle.mro.specs.Streams.{xored}
use Rattle.mro.proofs.Streams.{stream_at}
use Rattle.mro_converting.proofs.Streams.{stream-block}
use Rattle.mro_converting.proofs.Judged.{taken_at, sum-whole, sum_left}
use borrow.Author.Rules.{rules}
use Rattle.mro_converting.proofs.judging.absorb_opened.Goals as goal

pub loop-i-init : goal.loop-i-init
unfolding xor_over fold stepping times
loop-i-init c = record { sum_is = c.zero-sum.ensures; mask_is = refl }

pub loop-i-preserved : goal.loop-i-preserved
unfolding made_at taken_at xored stream_at block_at
loop-i-preserved c =
    let at = c.loop-i in
    let s = c.args.s.now in
    let block = rw (c.block.ensures, c.load.ensures, tail_part (128 * at.i) s) at c.xor-block.ensures in
    let more = rw (c.encipher.ensures, block, at.invariant.mask_is) at c.xor-next.ensures in
    record { sum_is = summed _ at.i at.sum _ at.invariant.sum_is more; mask_is = stepping-on _ at.mask _ at.i at.invariant.mask_is c.alpha-step.ensures }

pub returns-then-at-s : goal.returns-then-at-s
unfolding whole mro_cipher streamed mro_stream E mask_at times xored stream_at
returns-then-at-s c =
    let a = c.args in
    let s = a.s.now in
    let at = c.loop-i in
    let t = c.from_start-stream in
    let bytes : Bytes s = record { bytes = λ i. (c.type_inv.s i).fits } in
    let block : Block t.result.mask = rw t.ensures.1.0 (gamma-block a.from (array-block _ _ c.well_formed.1.1.0)) in
    let k = stream_at t.result.rounds t.result.mask (tag_bytes t.result.tag) in
    let fits : length s < 2 ^ 64 = search rules in
    let blocks : (i : ℕ) → i < whole s → Block (k i) = λ i p. stream-block t.result.rounds t.result.mask (tag_bytes t.result.tag) block (bytes-tag_bytes t.result.tag) i (omega arith) in
    let e : at.i ≡ whole s = omega arith in
    rw (t.ensures.0, t.ensures.1.0, t.ensures.1.1) at (sum-whole a.rounds (stepping a.first) k s bytes blocks at.sum (rw e at at.invariant.sum_is) (omega arith))

pub returns : goal.returns
unfolding whole left mro_cipher streamed mro_stream E mask_at times xored stream_at
returns c =
    let a = c.args in
    let s = a.s.now in
    let at = c.loop-i in
    let t = c.from_start-stream in
    let bytes : Bytes s = record { bytes = λ i. (c.type_inv.s i).fits } in
    let block : Block t.result.mask = rw t.ensures.1.0 (gamma-block a.from (array-block _ _ c.well_formed.1.1.0)) in
    let k = stream_at t.result.rounds t.result.mask (tag_bytes t.result.tag) in
    let fits : length s < 2 ^ 64 = search rules in
    let blocks : (i : ℕ) → i < whole s → Block (k i) = λ i p. stream-block t.result.rounds t.result.mask (tag_bytes t.result.tag) block (bytes-tag_bytes t.result.tag) i (omega arith) in
    let e : at.i ≡ whole s = omega arith in
    let q : 128 * whole s ≡ length s → ⊥ = λ r. c.if-at-s.false (omega arith) in
    let last = rw (tail_part (128 * whole s) s, c.block-2.ensures, at.invariant.mask_is, e) at c.absorb_last.ensures in
    rw (t.ensures.0, t.ensures.1.0, t.ensures.1.1) at (sum_left a.rounds (stepping a.first) k s bytes blocks at.sum (rw e at at.invariant.sum_is) _ q last)
