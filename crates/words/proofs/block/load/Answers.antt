-- The loop's invariant: the first i words are loaded. Assumes nothing.
use mathlib.Core.Path.{refl}
use native.Mathlib.Omega.{arith}
use lib.ListN.{length-drop}
use Rattle.words.specs.Block.{word_at}
use Rattle.words.proofs.Lists.{tail_part}
use Rattle.words.proofs.Loops.{filling-none, filling-more}
use Rattle.words.proofs.block.load.Goals as goal

pub loop-i-init : goal.loop-i-init
loop-i-init c = filling-none _ refl

pub load_word-requires : goal.load_word-requires
load_word-requires c = rw tail_part (simp length-drop (omega arith))

pub loop-i-preserved : goal.loop-i-preserved
unfolding word_at
loop-i-preserved c = filling-more c.loop-i.invariant (omega arith) (rw tail_part at c.load_word.ensures)
