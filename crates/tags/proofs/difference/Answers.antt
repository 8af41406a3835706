-- The loop's invariant: the bits in which the first i words differ. Assumes nothing.
use mathlib.Core.Path.{refl}
use native.Mathlib.Numerals.{add-one}
use native.Mathlib.Omega.{arith}
use Rattle.words.specs.Block.{word_at, block_of}
use Rattle.words.proofs.Lists.{tail_part, get_or-tab}
use Rattle.blockplan.specs.Compare.{differing}
use Rattle.tags.proofs.difference.Goals as goal

pub loop-i-init : goal.loop-i-init
unfolding differing
loop-i-init c = refl

pub loop-i-preserved : goal.loop-i-preserved
unfolding differing word_at block_of
loop-i-preserved c =
    let at = c.loop-i in
    let word = rw tail_part at c.load_word.ensures in
    rw (add-one, at.invariant, word, get_or-tab (word_at _) 16 at.i (omega arith))
