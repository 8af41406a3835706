-- One block more in each turn, under both starts. Assumes nothing.
use mathlib.Core.Path.{◌≡◌, refl}
use Prim.Native.Nat.{◌/◌, ◌*◌}
use native.Mathlib.Omega.{arith}
use lib.ListN.{length}
use Rattle.words.specs.Sequence.{fold, times}
use Rattle.words.proofs.Lists.{tail_part}
use Rattle.words.proofs.Loops.{writing-none, writing_more, writing-done}
use Rattle.blockplan.specs.Plan.{whole, block_at, xor_over}
use Rattle.blockplan.specs.Pass.{made_at, bytes_at, under, across, stepping}
use Rattle.blockplan.proofs.Sums.{summed}
use Rattle.blockplan.proofs.Passes.{stepping-on}
use Rattle.blockplan.proofs.Ciphered.{length-bytes_at}
use Rattle.opp_blocks.proofs.resealing.reseal_blocks.Goals as goal

pub loop-i-init : goal.loop-i-init
unfolding xor_over fold stepping times
loop-i-init c = record { written = writing-none; summed = c.zero-sum.ensures; from_at = refl; to_at = refl }

pub loop-i-preserved : goal.loop-i-preserved
unfolding bytes_at made_at under across block_at
loop-i-preserved c =
    let at = c.loop-i in
    let a = c.args in
    let s = a.s.now in
    let here = rw (tail_part (128 * at.i) s, at.invariant.from_at, at.invariant.to_at) at c.reseal_block-more.ensures in record {
      written = writing_more at.invariant.written (length-bytes_at (across _ (stepping _) (stepping _)) s) (omega arith) (omega arith) here.out_after;
      summed = summed _ at.i at.sum _ at.invariant.summed here.value;
      from_at = stepping-on _ at.from _ at.i at.invariant.from_at c.alpha-from_step.ensures;
      to_at = stepping-on _ at.to _ at.i at.invariant.to_at c.alpha-to_step.ensures;
    }

pub returns : goal.returns
unfolding whole
returns c =
    let at = c.loop-i in
    let s = c.args.s.now in
    let e : at.i ≡ length s / 128 = omega arith in
    record { out_after = writing-done at.invariant.written (omega arith); sum_value = (rw e at at.invariant.summed, (rw e at at.invariant.from_at, rw e at at.invariant.to_at)) }
