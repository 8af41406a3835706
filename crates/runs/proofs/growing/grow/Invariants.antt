-- The loop's invariant: n words stand behind the first sixteen, the others are as they were. Assumes nothing.
use mathlib.Core.Path.{◌≡◌}
use mathlib.Core.List.{◌++◌}
use Prim.Native.Nat.{◌≤◌, ◌+◌}
use lib.ListN.{length, take, drop}
use Rattle.masks.specs.Run.{grown}
use Rattle.runs.proofs.growing.grow.Given as goal

abbrev pub invariant-loop-n : goal.invariant-loop-n
invariant-loop-n l = (l.n ≤ l.more) × ((16 + l.more ≤ length l.initial.run) × ((length l.run ≡ length l.initial.run) × (l.run ≡ grown (take 16 l.initial.run) l.n ++ drop (16 + l.n) l.initial.run)))
