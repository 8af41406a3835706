-- The loop's invariant: the bits in which the first i words differ. Assumes nothing.
use mathlib.Core.Path.{◌≡◌}
use Rattle.words.specs.Block.{block_of}
use Rattle.blockplan.specs.Compare.{differing}
use Rattle.tags.proofs.difference.Given as goal

abbrev pub invariant-loop-i : goal.invariant-loop-i
invariant-loop-i l = l.differ ≡ differing l.b (block_of l.tag) l.i
