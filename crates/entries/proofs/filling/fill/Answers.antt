use native.Mathlib.Omega.{arith}
use lib.ListN.{length-take, length-drop}
use Rattle.cells.specs.Cells.{cells}
use Rattle.sales.specs.Sale.{body_for}
use Rattle.sales.proofs.Bodies.{body-long}
use Rattle.sales.proofs.Typed.{fields_fit}
use Rattle.entries.proofs.Filled.{sold-put, filled_put}
use Rattle.entries.proofs.filling.fill.Goals as goal

pub write_sale-requires : goal.write_sale-requires
unfolding cells
write_sale-requires c = simp (length-take, length-drop) (omega arith)

pub returns : goal.returns
unfolding cells
returns c =
    let start = c in
    let s = start.args.s.now in
    let p = c.put_front.ensures in
    let w = c.write_sale.ensures in
    filled_put s (body_for start.args.key.now start.args.of) _ _ (omega arith) (body-long _ _ (fields_fit _ _ start.well_formed.1.1.1.0)) _ _ _ _
    start.requires.0 c.index_at-first.ensures c.next_of-rest.ensures
    (sold-put s _ _ _ (omega arith) (body-long _ _ (fields_fit _ _ start.well_formed.1.1.1.0)) _ _ p w)
    c.put_index.ensures c.put_index-2.ensures
