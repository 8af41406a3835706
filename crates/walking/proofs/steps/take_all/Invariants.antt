-- The loop's invariant: what is left of the list leads from b to the same end. Assumes nothing.
use mathlib.Core.Path.{◌≡◌}
use lib.ListN.{drop}
use Rattle.walking.specs.Walking.{walked}
use Rattle.walking.proofs.steps.take_all.Given as goal

abbrev pub invariant-loop-kind : goal.invariant-loop-kind
invariant-loop-kind l = walked l.list l.initial.b ≡ walked (drop l.kind-index l.list) l.b
