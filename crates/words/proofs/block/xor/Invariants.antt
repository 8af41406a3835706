-- The loop's invariant: the first i words are done, the others are those of a. Assumes nothing.
use Rattle.words.specs.Block.{xor_at}
use Rattle.words.proofs.Loops.{Filling}
use Rattle.words.proofs.block.xor.Given as goal

abbrev pub invariant-loop-i : goal.invariant-loop-i
invariant-loop-i l = Filling (xor_at l.a l.b) 16 l.r l.i
