-- The loop's invariant: the first i blocks are in the sum, and the rest is the part behind them. Assumes nothing.
use mathlib.Core.Path.{◌≡◌, refl, ap, ap₂, ◌∙◌}
use Prim.Native.Nat.{◌/◌}
use native.Mathlib.Nat.{zero-add}
use native.Mathlib.Omega.{arith}
use lib.ListN.{length, length-drop}
use borrow.Author.Tests.{lt-ltb, le-ltb}
use Rattle.words.specs.Sequence.{fold}
use Rattle.words.specs.Block.{block_of, xor_block}
use Rattle.words.proofs.Lists.{tail_part, next_part}
use Rattle.mem.specs.Mem.{encipher}
use Rattle.blockplan.specs.Plan.{whole, left, has_left, block_at, xor_if}
use Rattle.blockplan.specs.Pass.{made_at, under}
use Rattle.quads.specs.Quads.{from_run}
use Rattle.quads.proofs.Moved.{folded}
use Rattle.run_sums.proofs.absorb_ones.Goals as goal

pub loop-i-init : goal.loop-i-init
unfolding fold
loop-i-init c = (zero-add _, (refl, refl))

pub mask_at-mask-requires : goal.mask_at-mask-requires
unfolding whole
mask_at-mask-requires c = omega arith

pub loop-i-preserved : goal.loop-i-preserved
unfolding made_at under from_run block_at
loop-i-preserved c =
    let at = c.loop-i in
    let a = c.args in
    let s = a.s.now in
    let rest = at.rest.now in
    let made = c.encipher.ensures ∙ ap₂ (encipher a.rounds) c.mask_at-mask.ensures (c.load.ensures ∙ ap block_of at.invariant.1.0) in
    (simp (tail_part, length-drop) (omega arith), (next_part 128 at.i rest s at.invariant.1.0, folded _ _ at.sum _ at.i at.invariant.1.1 (c.xor-next.ensures ∙ ap (xor_block at.sum) made)))

pub mask_at-requires : goal.mask_at-requires
unfolding whole
mask_at-requires c = omega arith

pub returns-then-rest-eq0 : goal.returns-then-rest-eq0
unfolding whole has_left left xor_if
returns-then-rest-eq0 c =
    let at = c.loop-i in
    let rest = at.rest.now in
    let e : at.i ≡ length c.args.s.now / 128 = omega arith in
    rw (← e, ← at.invariant.1.0, le-ltb 0 (length rest) (omega arith)) at.invariant.1.1

pub returns : goal.returns
unfolding whole has_left left xor_if
returns c =
    let at = c.loop-i in
    let rest = at.rest.now in
    let e : at.i ≡ length c.args.s.now / 128 = omega arith in
    rw (c.absorb_left.ensures, c.mask_at.ensures, ← e, ← at.invariant.1.0, lt-ltb 0 (length rest) (omega arith), ← at.invariant.1.1)
