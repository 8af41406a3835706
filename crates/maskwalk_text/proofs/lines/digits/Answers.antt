-- The loop's invariant: the digits of what is left, and those that are in. Assumes nothing.
use mathlib.Core.Path.{◌∙◌}
use Prim.Native.Nat.{◌-◌}
use native.Mathlib.Omega.{arith}
use Rattle.maskwalk_text.proofs.Writing.{digit-in}
use Rattle.maskwalk_text.proofs.lines.digits.Goals as goal

pub loop-i-preserved : goal.loop-i-preserved
loop-i-preserved c =
    let at = c.loop-i in
    at.invariant ∙ digit-in _ at.rest at.i (at.i - 1) _ at.out (omega arith) (omega arith) c.digit.ensures
