-- The loop's invariant: the first i words are done, the others are those of a. Assumes nothing.
use mathlib.Core.Path.{refl}
use native.Mathlib.Omega.{arith}
use Rattle.words.specs.Block.{xor_at}
use Rattle.words.proofs.Loops.{filling-none, filling-more}
use borrow.Author.Rules.{rules}
use Rattle.words.proofs.block.xor.Goals as goal

pub loop-i-init : goal.loop-i-init
loop-i-init c = filling-none _ (search rules)

pub loop-i-preserved : goal.loop-i-preserved
unfolding xor_at
loop-i-preserved c = filling-more c.loop-i.invariant (omega arith) refl
