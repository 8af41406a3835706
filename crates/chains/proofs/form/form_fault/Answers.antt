use mathlib.Core.Path.{ap, ◌∙◌}
use native.Mathlib.Omega.{arith}
use Rattle.std.specs.Prelude.{Err}
use Rattle.std.proofs.lemmas.Result.{err_from_is_err_and}
use Rattle.cells.specs.Cells.{cells}
use Rattle.chains.proofs.Faults.{sales-walked, free-walked, broken-sales, broken-free, misfit-low, last-check, none-reached}
use Rattle.chains.proofs.form.form_fault.Goals as goal

pub walk-requires : goal.walk-requires
unfolding cells
walk-requires c = (omega arith, none-reached _ _ c.requires.0.0 c.requires.1)

pub returns-in_err-sales : goal.returns-in_err-sales
unfolding cells
returns-in_err-sales c =
    let h = err_from_is_err_and _ c.from_residual.ensures.1 in
    let sold = sales-walked _ _ _ _ _ c.index_at.ensures c.walk.ensures.1 c.requires.1 in
    h.1 ∙ ap Err h.2 ∙ broken-sales _ _ _ (rw c.in_err-sales.was at sold)

pub returns-in_err-free : goal.returns-in_err-free
unfolding cells
returns-in_err-free c =
    let h = err_from_is_err_and _ c.from_residual-in_err-free.ensures.1 in
    let sold = rw c.in_ok-sales.was at (sales-walked _ _ _ _ _ c.index_at.ensures c.walk.ensures.1 c.requires.1) in
    let all = free-walked _ _ _ _ _ _ c.index_at-2.ensures c.walk-2.ensures.1 sold in
    h.1 ∙ ap Err h.2 ∙ broken-free _ _ _ _ _ sold (rw c.in_err-free.was at all)

pub first_unreached-requires : goal.first_unreached-requires
unfolding cells
first_unreached-requires c =
    let sold = rw c.in_ok-sales.was at (sales-walked _ _ _ _ _ c.index_at.ensures c.walk.ensures.1 c.requires.1) in
    let all = rw c.in_ok-free.was at (free-walked _ _ _ _ _ _ c.index_at-2.ensures c.walk-2.ensures.1 sold) in
    let left = c.in_ok-free.ensures.0 in
    ((all.lowest.most, omega arith), (misfit-low _ _ _ _ _ sold all left.head c.requires.0.0, left))

pub returns : goal.returns
unfolding cells
returns c =
    let sold = rw c.in_ok-sales.was at (sales-walked _ _ _ _ _ c.index_at.ensures c.walk.ensures.1 c.requires.1) in
    let all = rw c.in_ok-free.was at (free-walked _ _ _ _ _ _ c.index_at-2.ensures c.walk-2.ensures.1 sold) in
    let left = c.in_ok-free.ensures.0 in
    c.kind_fault.ensures
    ∙ last-check _ _ _ _ _ sold all _ (misfit-low _ _ _ _ _ sold all left.head c.requires.0.0) c.first_unreached.ensures
