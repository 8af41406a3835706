use mathlib.Core.Path.{sym, ◌∙◌}
use native.Mathlib.Omega.{arith}
use Rattle.cells.specs.Cells.{cells, first_sale}
use Rattle.cells.proofs.Form.{form_of}
use Rattle.chains.proofs.Seeks.{seek-start, seek-onward, seek-end, seek-here, seek-on, found_none, found_at}
use Rattle.chains.proofs.find.find.Goals as goal

pub index_at-at-requires : goal.index_at-at-requires
index_at-at-requires c = let f = form_of _ c.requires in omega (arith, f.size.least)

pub loop-at-init : goal.loop-at-init
unfolding first_sale
loop-at-init c = rw c.index_at-at.ensures (seek-start _ _ c.requires)

pub is_named-requires : goal.is_named-requires
is_named-requires c = (seek-onward _ _ _ _ c.loop-at.invariant c.loop-at-test.true).inside

pub returns-then-is_named : goal.returns-then-is_named
returns-then-is_named c =
    found_at _ _ _ _ _ (seek-here _ _ _ _ c.loop-at.invariant c.loop-at-test.true (sym c.is_named.ensures ∙ c.if-is_named.true))

pub next_of-at-requires : goal.next_of-at-requires
next_of-at-requires c = (seek-onward _ _ _ _ c.loop-at.invariant c.loop-at-test.true).inside

pub loop-at-smaller : goal.loop-at-smaller
loop-at-smaller c = rw c.next_of-at.ensures (seek-onward _ _ _ _ c.loop-at.invariant c.loop-at-test.true).fewer

pub loop-at-preserved : goal.loop-at-preserved
loop-at-preserved c =
    rw c.next_of-at.ensures
    (seek-on _ _ _ _ c.loop-at.invariant c.loop-at-test.true (sym c.is_named.ensures ∙ c.if-is_named.false))

pub returns-else-at-cells : goal.returns-else-at-cells
unfolding cells
returns-else-at-cells c = let h = (seek-onward _ _ _ _ c.loop-at.invariant c.loop-at-test.true).inside in absurd (omega arith)

pub returns-after-loop-at : goal.returns-after-loop-at
returns-after-loop-at c = found_none _ _ _ (seek-end _ _ _ _ c.loop-at.invariant c.loop-at-test.false)
