-- The loop's invariant: the first i blocks are in, the others are as they were. Assumes nothing.
use Rattle.words.proofs.Loops.{Writing}
use Rattle.blockplan.specs.Pass.{bytes_at}
use Rattle.mro.specs.Streams.{onward, xored}
use Rattle.mro.proofs.stream.xor_blocks.Given as goal

abbrev pub invariant-loop-i : goal.invariant-loop-i
invariant-loop-i g l = Writing (bytes_at (xored (onward (g.S.Stream.nth l.stream) l.n)) l.s) 128 l.whole l.initial.out l.out l.i
