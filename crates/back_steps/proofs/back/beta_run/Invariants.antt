-- The loop's invariant: the first i words are in, and u is the next. Assumes nothing.
use mathlib.Core.Path.{◌≡◌}
use Rattle.words.proofs.Loops.{Filling}
use Rattle.back_steps.specs.BackSteps.{beta_run}
use Rattle.back_steps.proofs.back.beta_run.Given as goal

abbrev pub invariant-loop-i : goal.invariant-loop-i
invariant-loop-i l = Filling (beta_run l.b l.x) 16 l.r l.i × (l.u ≡ beta_run l.b l.x l.i)
