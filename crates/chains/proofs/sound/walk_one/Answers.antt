use mathlib.Core.Path.{sym, ◌∙◌}
use native.Mathlib.Omega.{arith}
use Rattle.cells.specs.Cells.{cells}
use Rattle.chains.proofs.Sounds.{one_more}
use Rattle.chains.proofs.sound.walk_one.Goals as goal

pub loop-at-preserved : goal.loop-at-preserved
unfolding cells
loop-at-preserved c =
    let l = c.loop-at in
    let link = c.link_of-link.ensures in
    rw link.0 (one_more _ _ _ l.at _ l.left l.invariant c.loop-at-test.true (omega arith) (rw link.1 at (sym c.takes.ensures ∙ c.if-not-takes.false)) (omega arith))
