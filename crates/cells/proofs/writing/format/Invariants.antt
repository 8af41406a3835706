use Prim.Native.Nat.{◌*◌}
use mathlib.Core.Path.{◌≡◌}
use lib.ListN.{take}
use Rattle.words.specs.Sequence.{cat}
use Rattle.cells.specs.Changes.{fresh_cell}
use Rattle.cells.proofs.writing.format.Given as goal

abbrev pub invariant-loop-c : goal.invariant-loop-c
invariant-loop-c l = take (64 * l.c) l.s ≡ cat (fresh_cell l.cells) l.c
