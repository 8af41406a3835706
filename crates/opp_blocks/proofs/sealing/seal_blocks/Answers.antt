-- Two blocks more in each turn, and one at the end where their number is odd. Assumes nothing.
use mathlib.Core.Path.{◌≡◌}
use mathlib.Core.Bool.{false}
use Prim.Native.Nat.{◌/◌, ◌*◌, ◌+◌, ◌-◌}
use native.Mathlib.Omega.{arith}
use lib.ListN.{length}
use lib.Seq.{drop-drop}
use Rattle.words.specs.Sequence.{times}
use Rattle.words.proofs.Lists.{tail_part}
use Rattle.blockplan.specs.Plan.{whole, block_at}
use Rattle.blockplan.specs.Pass.{made_at, bytes_at, plain_at, under, stepping}
use Rattle.blockplan.proofs.Passes.{stepping-on, passed_none, passed-one, passed-two}
use Rattle.opp_blocks.proofs.sealing.seal_blocks.Goals as goal

pub loop-i-init : goal.loop-i-init
unfolding stepping times
loop-i-init c = passed_none false _ (stepping _) _ _ _ c.zero-sum.ensures

pub loop-i-preserved : goal.loop-i-preserved
unfolding bytes_at plain_at made_at under block_at
loop-i-preserved c =
    let at = c.loop-i in
    let a = c.args in
    let n = 2 * at.i in
    let here-is : 256 * at.i ≡ 128 * n = omega arith in
    let far : 128 * n + 128 ≡ 128 * (n + 1) = omega arith in
    let next = stepping-on a.first at.mask _ n at.invariant.reached c.alpha-next.ensures in
    let here = rw (here-is, tail_part (128 * n) a.s.now, drop-drop, far, next, at.invariant.reached) at c.seal_pair-more.ensures in
    let two-on : n + 2 ≡ n + 1 + 1 = omega arith in
    let step = stepping-on a.first _ _ (n + 1) next c.alpha-step.ensures in
    let more : 2 * (at.i + 1) ≡ n + 2 = omega arith in
    rw (more, here-is)
    (passed-two false a.rounds (stepping a.first) a.s.now n a.out.now _ _ at.sum _ at.mask _ at.invariant here.out_after here.value (rw two-on step))

pub returns-then-count-eq0 : goal.returns-then-count-eq0
unfolding whole
returns-then-count-eq0 c = let all : 2 * c.loop-i.i ≡ length c.args.s.now / 128 = omega arith in rw all at c.loop-i.invariant

pub returns : goal.returns
unfolding whole bytes_at plain_at made_at under block_at
returns c =
    let at = c.loop-i in
    let a = c.args in
    let n = 2 * at.i in
    let last : length a.s.now / 128 - 1 ≡ n = omega arith in
    let all : length a.s.now / 128 ≡ n + 1 = omega arith in
    let here = rw (last, tail_part (128 * n) a.s.now, at.invariant.reached) at c.pass_block-more.ensures in
    let step = stepping-on a.first at.mask _ n at.invariant.reached c.alpha.ensures in
    rw (last, all) (passed-one false a.rounds (stepping a.first) a.s.now n a.out.now _ _ at.sum _ at.mask _ at.invariant here.out_after here.value step)
