-- The loop's invariant: the bytes of the first i words are in, the others are as they were. Assumes nothing.
use native.Mathlib.Omega.{arith}
use lib.ListN.{length-drop}
use Rattle.words.specs.Block.{word_bytes}
use Rattle.words.proofs.Lists.{tail_part}
use Rattle.words.proofs.Loops.{writing-none, writing_more}
use Rattle.words.proofs.Blocks.{length-word_bytes}
use Rattle.words.proofs.block.store.Goals as goal

pub loop-i-init : goal.loop-i-init
loop-i-init c = writing-none

pub store_word-requires : goal.store_word-requires
store_word-requires c = rw tail_part (simp length-drop (omega arith))

pub loop-i-preserved : goal.loop-i-preserved
unfolding word_bytes
loop-i-preserved c =
    let at = c in
    writing_more at.loop-i.invariant (length-word_bytes at.args.b) (omega arith) (omega arith) c.store_word.ensures
