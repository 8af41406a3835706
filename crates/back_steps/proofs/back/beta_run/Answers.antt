-- The loop's invariant: the first i words are in, and u is the next. Assumes nothing.
use mathlib.Core.Path.{refl}
use native.Mathlib.Omega.{arith}
use native.Mathlib.Numerals.{add-one}
use Rattle.words.proofs.Loops.{filling-none, filling-more}
use Rattle.back_steps.specs.BackSteps.{beta_run}
use borrow.Author.Rules.{rules}
use Rattle.back_steps.proofs.back.beta_run.Goals as goal

pub loop-i-init : goal.loop-i-init
unfolding beta_run
loop-i-init c = (filling-none _ (search rules), refl)

pub loop-i-preserved : goal.loop-i-preserved
unfolding beta_run
loop-i-preserved c =
    let inv = c.loop-i.invariant in
    (filling-more inv.0 (omega arith) inv.1, rw (add-one, inv.1))
