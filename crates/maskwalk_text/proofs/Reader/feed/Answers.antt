-- The loop's invariant: what is left of the part leads to the same end. Assumes nothing.
use mathlib.Core.Path.{◌∙◌}
use native.Mathlib.Omega.{arith}
use native.Mathlib.Numerals.{add-one}
use lib.Seq.{drop-cons}
use Rattle.maskwalk_text.proofs.Scanning.{fed-one}
use Rattle.maskwalk_text.proofs.Reader.feed.Goals as goal

pub loop-b-preserved : goal.loop-b-preserved
loop-b-preserved c =
    let at = c.loop-b in
    let part = c.args.part.now in
    at.invariant ∙ rw (drop-cons part at.b-index 0 (omega arith), add-one) (fed-one _ _ _ _ _ _ c.take_byte.ensures)
