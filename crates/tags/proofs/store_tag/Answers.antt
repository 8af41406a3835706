-- The loop's invariant: the bytes of the first i words are in, the others are as they were. Assumes nothing.
use native.Mathlib.Omega.{arith}
use Rattle.words.specs.Block.{word_bytes}
use Rattle.words.proofs.Loops.{writing-none, writing_more, writing-done}
use Rattle.words.proofs.Blocks.{length-word_bytes}
use Rattle.blockplan.proofs.Tags.{tag_is}
use Rattle.tags.proofs.store_tag.Goals as goal

pub loop-i-init : goal.loop-i-init
loop-i-init c = writing-none

pub loop-i-preserved : goal.loop-i-preserved
unfolding word_bytes
loop-i-preserved c =
    let at = c in
    writing_more at.loop-i.invariant (length-word_bytes at.args.b) (omega arith) (omega arith) c.store_word.ensures

pub returns : goal.returns
returns c = rw (tag_is c.args.b) (writing-done c.loop-i.invariant (omega arith))
