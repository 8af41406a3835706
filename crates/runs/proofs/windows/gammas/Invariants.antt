-- The loop's invariant: the first i words are in, and the others are as they were. Assumes nothing.
use mathlib.Core.Path.{◌≡◌}
use mathlib.Core.List.{◌++◌}
use Prim.Native.Nat.{◌≤◌}
use lib.ListN.{length, drop}
use Rattle.words.specs.Sequence.{tab}
use Rattle.masks.specs.Run.{neighbours}
use Rattle.runs.proofs.windows.gammas.Given as goal

abbrev pub invariant-loop-i : goal.invariant-loop-i
invariant-loop-i l = (l.i ≤ l.count) × ((length l.masks ≡ length l.initial.masks) × (l.masks ≡ tab (neighbours 2 l.run) l.i ++ drop l.i l.initial.masks))
