use Prim.Native.Nat.{◌*◌}
use native.Mathlib.Omega.{arith}
use native.Mathlib.Decide.{dec_lt}
use Rattle.chains.proofs.Bits.{first_word, full-word}
use Rattle.chains.proofs.form.marked_below.Goals as goal

pub loop-i-init : goal.loop-i-init
loop-i-init c = λ k a l. first_word _ k c.if-marks.false a l

pub loop-i-preserved : goal.loop-i-preserved
loop-i-preserved c =
    let at = c.loop-i in
    λ k a l. elim (dec_lt k (64 * at.i)) [
      | yes p ↦ at.invariant k a p
      | no q ↦ full-word _ at.i k c.if-marks-i.false (omega arith) (omega arith)
    ]
