-- The checks one after the other, and what opening tells. Assumes nothing.
use mathlib.Core.Path.{sym, ◌∙◌}
use Rattle.cells.proofs.Cells.{body-length}
use Rattle.sales.proofs.Held.{opened-some, opened-none}
use Rattle.entries.specs.Entries.{opens_at}
use Rattle.store.proofs.Sought.{found-none, found-some, cell-inside}
use Rattle.store.proofs.Calls.{error-is, missing, key-clear, named-stopped, named-absent, named-shut, named-open}
use Rattle.store.proofs.open_named.Goals as goal

pub returns-in_err-key : goal.returns-in_err-key
returns-in_err-key c = rw (error-is _ c.from_residual.ensures.1) (named-stopped _ _ _ _ c.in_err-key.ensures)

pub find-requires : goal.find-requires
find-requires c = (key-clear _ _ c.in_ok-key.ensures.1).1

pub returns-in_err-place : goal.returns-in_err-place
returns-in_err-place c =
    rw (error-is _ c.from_residual-in_err-place.ensures.1, missing _ _ _ c.in_err-place.ensures.value)
    (named-absent _ _ _ _ c.in_ok-key.ensures.1 (found-none _ _ _ (sym c.in_err-place.ensures.ok_part ∙ c.find.ensures)))

pub body_of-requires : goal.body_of-requires
body_of-requires c =
    let there = found-some _ _ _ _ (sym c.in_ok-place.ensures.ok_part ∙ c.find.ensures) in
    rw there.1 (cell-inside _ _ _ (key-clear _ _ c.in_ok-key.ensures.1).1 there.0)

pub open_sale-requires : goal.open_sale-requires
open_sale-requires c =
    let there = found-some _ _ _ _ (sym c.in_ok-place.ensures.ok_part ∙ c.find.ensures) in
    rw (c.body_of.ensures, there.1) (body-length _ _ (cell-inside _ _ _ (key-clear _ _ c.in_ok-key.ensures.1).1 there.0))

pub returns-in_default : goal.returns-in_default
unfolding opens_at
returns-in_default c =
    let there = found-some _ _ _ _ (sym c.in_ok-place.ensures.ok_part ∙ c.find.ensures) in
    let shut = opened-none _ _ (rw (c.body_of.ensures, there.1, c.in_ok-key.ensures.0) at (sym c.in_default.is ∙ c.open_sale.ensures)) in
    rw (c.at.ensures, there.1) (named-shut _ _ _ _ c.in_ok-key.ensures.1 there.0 shut)

pub returns : goal.returns
unfolding opens_at
returns c =
    let there = found-some _ _ _ _ (sym c.in_ok-place.ensures.ok_part ∙ c.find.ensures) in
    let told = opened-some _ _ _ (rw (c.body_of.ensures, there.1, c.in_ok-key.ensures.0) at (sym c.in-Some.is ∙ c.open_sale.ensures)) in
    rw (there.1, told.1) (named-open _ _ _ _ c.in_ok-key.ensures.1 there.0 told.0)
