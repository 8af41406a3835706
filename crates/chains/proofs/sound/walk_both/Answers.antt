use mathlib.Core.Path.{sym, ◌∙◌}
use mathlib.Core.List.{[]}
use native.Mathlib.Omega.{arith}
use Rattle.cells.specs.Cells.{cells, first_sale, first_free}
use Rattle.chains.proofs.Sounds.{both-more}
use Rattle.chains.proofs.sound.walk_both.Goals as goal

pub loop-sold-init : goal.loop-sold-init
unfolding cells first_sale first_free
loop-sold-init c =
    let p = c.requires in
    record { sales = []; spare = []; of-sales = sym c.index_at-sold.ensures; of-spare = sym c.index_at-free.ensures; many = omega arith }

pub loop-sold-preserved : goal.loop-sold-preserved
unfolding cells
loop-sold-preserved c =
    let l = c.loop-sold in
    let a = c.link_of-sale.ensures in
    let b = c.link_of-spare.ensures in
    rw (a.0, b.0) (both-more _ l.sold l.free l.left l.invariant c.loop-sold-test.true c.if-free-ne0.true (omega arith) (omega arith) (rw a.1 at (sym c.takes.ensures ∙ c.if-not-takes.false)) (rw b.1 at (sym c.takes-else-not-takes.ensures ∙ c.if-not-takes-2.false)) (omega arith))
