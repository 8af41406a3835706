-- The loop's invariant: the first i words are in, and u and v are the next two. Assumes nothing.
use mathlib.Core.Path.{refl}
use native.Mathlib.Omega.{arith}
use Rattle.words.proofs.Loops.{filling-none, filling-more}
use Rattle.back_steps.specs.BackSteps.{gamma_run}
use Rattle.back_steps.proofs.Undoing.{gamma-after}
use borrow.Author.Rules.{rules}
use Rattle.back_steps.proofs.back.gamma_run.Goals as goal

pub loop-i-init : goal.loop-i-init
unfolding gamma_run
loop-i-init c = (filling-none _ (search rules), (refl, refl))

pub loop-i-preserved : goal.loop-i-preserved
loop-i-preserved c =
    let at = c.loop-i in
    (filling-more at.invariant.0 (omega arith) at.invariant.1.0, (at.invariant.1.1, gamma-after _ _ _ at.i _ _ at.invariant.1.0 at.invariant.1.1))
