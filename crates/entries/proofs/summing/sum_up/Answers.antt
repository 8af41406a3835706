use mathlib.Core.Path.{sym, ap, ◌∙◌}
use lib.ListN.{length}
use Prim.Native.Nat.{◌^◌, ◌<◌}
use native.Mathlib.Omega.{arith}
use lib.Dec.{eqb}
use Rattle.cells.specs.Cells.{first_sale}
use Rattle.cells.proofs.Cells.{body-length}
use Rattle.cells.proofs.Form.{form_of}
use Rattle.sales.proofs.Cash.{chosen-le}
use Rattle.sales.proofs.Held.{held-cash, opened-some, opened-none}
use Rattle.entries.specs.Entries.{opens_at, sale_at}
use Rattle.entries.proofs.Summed.{summed, sum-start, sum-end, sum-onward, sum-shut, sum-on}
use borrow.Author.Rules.{rules}
use Rattle.entries.proofs.summing.sum_up.Goals as goal

pub index_at-at-requires : goal.index_at-at-requires
index_at-at-requires c = let f = form_of _ c.requires in omega (arith, f.size.least)

pub loop-at-init : goal.loop-at-init
unfolding first_sale
loop-at-init c = rw c.index_at-at.ensures (sum-start _ _ c.requires)

pub body_of-requires : goal.body_of-requires
body_of-requires c = (sum-onward _ _ _ _ c.loop-at.invariant c.loop-at-test.true).inside

pub open_sale-requires : goal.open_sale-requires
open_sale-requires c = rw c.body_of.ensures (body-length _ _ (sum-onward _ _ _ _ c.loop-at.invariant c.loop-at-test.true).inside)

pub returns-in_default : goal.returns-in_default
unfolding summed opens_at
returns-in_default c = rw c.at.ensures (sum-shut _ _ _ _ c.loop-at.invariant c.loop-at-test.true (opened-none _ _ (rw c.body_of.ensures at (sym c.in_default.is ∙ c.open_sale.ensures))))

pub overflow_add-sum : goal.overflow_add-sum
overflow_add-sum c =
    let f = form_of _ c.requires in
    let k = c.loop-at.invariant in
    let n = sum-onward _ _ _ _ c.loop-at.invariant c.loop-at-test.true in
    let a : c.in-Some.record.amount < 2 ^ 32 = search rules in
    let v = chosen-le (eqb c.in-Some.record.means 1) c.in-Some.record.amount in
    let e = c.cash-sum.ensures in
    omega (arith, k.room, ap length n.split, f.size.most, f.size.whole)

pub next_of-at-requires : goal.next_of-at-requires
next_of-at-requires c = (sum-onward _ _ _ _ c.loop-at.invariant c.loop-at-test.true).inside

pub loop-at-smaller : goal.loop-at-smaller
loop-at-smaller c = rw c.next_of-at.ensures (sum-onward _ _ _ _ c.loop-at.invariant c.loop-at-test.true).fewer

pub loop-at-preserved : goal.loop-at-preserved
unfolding opens_at sale_at
loop-at-preserved c =
    let told = opened-some _ _ _ (rw c.body_of.ensures at (sym c.in-Some.is ∙ c.open_sale.ensures)) in
    let a : c.in-Some.record.amount < 2 ^ 32 = search rules in
    let v = chosen-le (eqb c.in-Some.record.means 1) c.in-Some.record.amount in
    let e = c.cash-sum.ensures in
    rw c.next_of-at.ensures (sum-on _ _ _ _ c.loop-at.invariant c.loop-at-test.true _ told.0 (e ∙ rw told.1 (held-cash _ _ _)) (omega arith))

pub returns : goal.returns
unfolding summed
returns c = sum-end _ _ _ _ c.loop-at.invariant c.loop-at-test.false
