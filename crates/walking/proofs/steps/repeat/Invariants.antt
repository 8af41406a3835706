-- The loop's invariant: b is the start after so many steps. Assumes nothing.
use mathlib.Core.Path.{◌≡◌}
use mathlib.Core.List.{List}
use Prim.Native.Nat.{ℕ}
use Rattle.words.specs.Sequence.{times}
use Rattle.walking.specs.Walking.{DoesAs}
use Rattle.walking.proofs.steps.repeat.Given as goal

abbrev pub invariant-loop : goal.invariant-loop
invariant-loop g l = (h : List ℕ → List ℕ) → DoesAs (goal.F-post g l.step) h → l.b ≡ times h l.counter l.initial.b
