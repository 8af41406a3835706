-- The loop's invariant: the first bytes are masked, the others are as they were. Assumes nothing.
use mathlib.Core.Path.{refl, ap, ◌∙◌}
use Prim.Native.Nat.{ℕ}
use native.Mathlib.Omega.{arith}
use lib.ListN.{get_or}
use lib.Seq.{length-take-le}
use mathlib.Core.Bool.{cond}
use lib.Dec.{eqb}
use lib.Bits.{bit_and}
use Rattle.words.specs.Sequence.{tab}
use Rattle.words.proofs.Lists.{placed, untouched}
use Rattle.tags.proofs.Kept.{kept_at, masked, kept}
use borrow.Author.Rules.{rules}
use Rattle.tags.proofs.keep.Goals as goal

pub loop-x-init : goal.loop-x-init
unfolding tab
loop-x-init c = refl

pub loop-x-preserved : goal.loop-x-preserved
unfolding kept_at
loop-x-preserved c =
    let at = c.loop-x in
    let i = at.x-index in
    let x = get_or at.x-items i 0 in
    let right = eqb c.args.differ 0 in
    placed _ i _ at.x-items _ c.loop-x-test.true at.invariant
    (ap (bit_and x) c.mask_of-mask.ensures ∙ masked right x (search rules) ∙ ap (λ (n : ℕ). cond right n 0) (untouched _ i _ at.x-items at.invariant))

pub returns : goal.returns
returns c = kept (eqb c.args.differ 0) c.args.n c.args.out.now _ c.loop-x.x-index c.requires (omega (arith, length-take-le c.args.n c.args.out.now c.requires)) c.loop-x.invariant
