-- The loop's invariant: the bytes of the first i words are in, the others are as they were. Assumes nothing.
use Rattle.words.specs.Block.{word_bytes}
use Rattle.words.proofs.Loops.{Writing}
use Rattle.words.proofs.block.store.Given as goal

abbrev pub invariant-loop-i : goal.invariant-loop-i
invariant-loop-i l = Writing (word_bytes l.b) 8 16 l.initial.out l.out l.i
