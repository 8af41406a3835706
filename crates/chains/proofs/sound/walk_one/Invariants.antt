use Rattle.cells.specs.Cells.{is_sales}
use Rattle.chains.specs.Sound.{OneUpTo}
use Rattle.chains.proofs.sound.walk_one.Given as goal

abbrev pub invariant-loop-at : goal.invariant-loop-at
invariant-loop-at l = OneUpTo l.s (is_sales l.chain) l.first l.at l.most l.left

abbrev pub decreases-loop-at : goal.decreases-loop-at
decreases-loop-at l = l.left
