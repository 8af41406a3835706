-- One block more in each turn. Assumes nothing.
use mathlib.Core.Path.{◌≡◌}
use mathlib.Core.Bool.{true}
use Prim.Native.Nat.{◌/◌, ◌*◌}
use native.Mathlib.Omega.{arith}
use lib.ListN.{length}
use Rattle.words.specs.Sequence.{times}
use Rattle.words.proofs.Lists.{tail_part}
use Rattle.blockplan.specs.Plan.{whole, block_at}
use Rattle.blockplan.specs.Pass.{made_at, bytes_at, plain_at, under, stepping}
use Rattle.blockplan.proofs.Passes.{stepping-on, passed_none, passed-one}
use Rattle.opp_blocks.proofs.opening.open_blocks.Goals as goal

pub loop-i-init : goal.loop-i-init
unfolding stepping times
loop-i-init c = passed_none true _ (stepping _) _ _ _ c.zero-sum.ensures

pub loop-i-preserved : goal.loop-i-preserved
unfolding bytes_at plain_at made_at under block_at
loop-i-preserved c =
    let at = c.loop-i in
    let a = c.args in
    let here = rw (tail_part (128 * at.i) a.s.now, at.invariant.reached) at c.pass_block-more.ensures in
    let step = stepping-on a.first at.mask _ at.i at.invariant.reached c.alpha-step.ensures in
    passed-one true a.rounds (stepping a.first) a.s.now at.i a.out.now _ _ at.sum _ at.mask _ at.invariant here.out_after here.value step

pub returns : goal.returns
unfolding whole
returns c =
    let at = c.loop-i in
    let e : at.i ≡ length c.args.s.now / 128 = omega arith in
    rw e at at.invariant
