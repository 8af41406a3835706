-- The loop's invariant: the first i words are in. Assumes nothing.
use mathlib.Core.Path.{refl}
use native.Mathlib.Omega.{arith}
use Rattle.words.proofs.Loops.{filling-none, filling-more, filling-done}
use Rattle.masks.specs.Run.{mask_from}
use Rattle.runs.proofs.windows.mask_at.Goals as goal

pub loop-i-init : goal.loop-i-init
loop-i-init c = filling-none _ refl

pub loop-i-preserved : goal.loop-i-preserved
loop-i-preserved c =
    let at = c.loop-i in
    filling-more at.invariant (omega arith) c.mask_word.ensures

pub returns : goal.returns
unfolding mask_from
returns c =
    let at = c.loop-i in
    filling-done at.invariant (omega arith)
