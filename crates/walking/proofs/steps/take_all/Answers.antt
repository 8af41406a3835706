-- The loop's invariant: what is left of the list leads from b to the same end. Assumes nothing.
use mathlib.Core.Path.{◌∙◌}
use native.Mathlib.Omega.{arith}
use native.Mathlib.Numerals.{add-one}
use lib.Seq.{drop-cons}
use Rattle.walking.specs.Walking.{walked}
use Rattle.walking.proofs.steps.take_all.Goals as goal

pub loop-kind-preserved : goal.loop-kind-preserved
unfolding walked
loop-kind-preserved c =
    let at = c.loop-kind in
    at.invariant ∙ rw (drop-cons c.args.list.now at.kind-index 0 (omega arith), add-one, c.take_one-next.ensures)
