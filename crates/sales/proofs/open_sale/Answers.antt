-- The parcel behind the nonce is opened, and amount, means and price are read from what that leaves. Assumes nothing.
use mathlib.Core.Path.{refl, sym, ◌∙◌}
use Rattle.cells.proofs.Numbers.{one_byte}
use Rattle.sales.specs.Sale.{opening}
use Rattle.sales.proofs.Held.{held-opened}
use borrow.Author.Rules.{rules}
use Rattle.sales.proofs.open_sale.Goals as goal

pub returns-then-not-open : goal.returns-then-not-open
unfolding opening
returns-then-not-open c =
    let told = held-opened c.args.key.now c.args.body.now _ c.requires refl _ _ _ c.start-first.ensures c.open.ensures in
    rw (sym told.0 ∙ c.if-not-open.true)

pub returns : goal.returns
unfolding opening
returns c =
    let told = held-opened c.args.key.now c.args.body.now _ c.requires refl _ _ _ c.start-first.ensures c.open.ensures in
    let right = c.if-not-open.false in
    rw (sym told.0 ∙ right, c.number_at.ensures, c.number_at-2.ensures, sym (one_byte c.open.new.out 6 (search rules)), told.1 right)
