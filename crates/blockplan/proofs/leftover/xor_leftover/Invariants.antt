-- The loop's invariant: the first i bytes are in, the others are as they were. Assumes nothing.
use mathlib.Core.Path.{◌≡◌}
use mathlib.Core.List.{◌++◌}
use lib.ListN.{drop}
use Rattle.words.specs.Sequence.{tab}
use Rattle.words.specs.Block.{xor_at}
use Rattle.blockplan.proofs.leftover.xor_leftover.Given as goal

abbrev pub invariant-loop-i : goal.invariant-loop-i
invariant-loop-i l = l.out ≡ tab (xor_at l.s l.bytes) l.i ++ drop l.i l.initial.out
