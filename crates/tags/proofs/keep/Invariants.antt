-- The loop's invariant: the first bytes are masked, the others are as they were. Assumes nothing.
use mathlib.Core.Path.{◌≡◌}
use mathlib.Core.List.{◌++◌}
use lib.Dec.{eqb}
use lib.ListN.{drop}
use Rattle.words.specs.Sequence.{tab}
use Rattle.tags.proofs.Kept.{kept_at}
use Rattle.tags.proofs.keep.Given as goal

abbrev pub invariant-loop-x : goal.invariant-loop-x
invariant-loop-x l = l.x-items ≡ tab (kept_at (eqb l.differ 0) l.initial.x-items) l.x-index ++ drop l.x-index l.initial.x-items
