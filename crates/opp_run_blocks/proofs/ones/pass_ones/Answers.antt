-- One block more in each turn. Assumes nothing.
use mathlib.Core.Path.{◌≡◌, refl, ap, ◌∙◌}
use mathlib.Core.Bool.{not}
use lib.Dec.{eqb}
use Prim.Native.Nat.{◌/◌, ◌*◌}
use native.Mathlib.Omega.{arith}
use lib.ListN.{length, length-drop}
use Rattle.words.specs.Sequence.{fold}
use Rattle.words.specs.Block.{xor_block}
use Rattle.words.proofs.Lists.{tail_part}
use Rattle.words.proofs.Loops.{writing-none, writing_more, writing-done}
use Rattle.blockplan.specs.Plan.{whole, block_at}
use Rattle.blockplan.specs.Pass.{made_at, bytes_at, plain_at, under}
use Rattle.blockplan.proofs.Ciphered.{length-bytes_at}
use Rattle.quads.specs.Quads.{from_run}
use Rattle.quads.proofs.Moved.{folded}
use Rattle.opp_run_blocks.proofs.Joined.{cond-twice}
use Rattle.opp_run_blocks.proofs.ones.pass_ones.Goals as goal

pub loop-i-init : goal.loop-i-init
unfolding fold
loop-i-init g c = (refl, (writing-none, refl))

pub mask_at-mask-requires : goal.mask_at-mask-requires
unfolding whole
mask_at-mask-requires g c = omega arith

pub pass_block-more-requires : goal.pass_block-more-requires
pass_block-more-requires g c = (rw tail_part (simp length-drop (omega arith)), rw tail_part (simp length-drop (omega arith)))

pub loop-i-preserved : goal.loop-i-preserved
unfolding bytes_at plain_at made_at under from_run block_at
loop-i-preserved g c =
    let at = c.loop-i in
    let a = c.args in
    let s = a.s.now in
    let here = under (not (eqb g.row.OPENING 0)) a.rounds (from_run 0 a.run.now a.n) in
    let one = rw (tail_part (128 * at.i) s, c.mask_at-mask.ensures) at c.pass_block-more.ensures in
    (refl, (writing_more at.invariant.1.0 (length-bytes_at here s) (omega arith) (omega arith) one.out_after, folded (plain_at (not (eqb g.row.OPENING 0)) here s) _ at.sum _ at.i at.invariant.1.1 (one.value ∙ ap (xor_block at.sum) (cond-twice (not (eqb g.row.OPENING 0)) _ _ _))))

pub returns : goal.returns
unfolding whole
returns g c =
    let at = c.loop-i in
    let e : at.i ≡ length c.args.s.now / 128 = omega arith in
    record { written = writing-done at.invariant.1.0 (omega arith); summed = rw e at at.invariant.1.1 }
