-- The loop's invariant: the first i words are loaded. Assumes nothing.
use Rattle.words.specs.Block.{word_at}
use Rattle.words.proofs.Loops.{Filling}
use Rattle.words.proofs.block.load.Given as goal

abbrev pub invariant-loop-i : goal.invariant-loop-i
invariant-loop-i l = Filling (word_at l.s) 16 l.r l.i
