-- The loop's invariant: the first i words are in, and u and v are the next two. Assumes nothing.
use mathlib.Core.Path.{◌≡◌}
use Prim.Native.Nat.{◌+◌}
use Rattle.words.proofs.Loops.{Filling}
use Rattle.back_steps.specs.BackSteps.{gamma_run}
use Rattle.back_steps.proofs.back.gamma_run.Given as goal

abbrev pub invariant-loop-i : goal.invariant-loop-i
invariant-loop-i l =
    Filling (gamma_run l.b l.x l.y) 16 l.r l.i × ((l.u ≡ gamma_run l.b l.x l.y l.i) × (l.v ≡ gamma_run l.b l.x l.y (l.i + 1)))
