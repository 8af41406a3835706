use mathlib.Core.Path.{◌∙◌, sym}
use Rattle.store.specs.Store.{form_checks}
use Rattle.store.proofs.Sought.{found-none, found-some}
use Rattle.store.proofs.Calls.{error-is, missing, form-clear, read-stopped, read-absent, read-there}
use Rattle.store.proofs.locate.Goals as goal

pub returns-in_err-check_form : goal.returns-in_err-check_form
unfolding form_checks
returns-in_err-check_form c =
    rw (error-is _ c.from_residual.ensures.1) (read-stopped _ _ _ _ (sym c.check_form.ensures ∙ c.in_err-check_form.was))

pub find-requires : goal.find-requires
unfolding form_checks
find-requires c = form-clear _ (sym c.check_form.ensures ∙ c.in_ok-check_form.was)

pub returns-in_err-place : goal.returns-in_err-place
unfolding form_checks
returns-in_err-place c =
    rw (error-is _ c.from_residual-in_err-place.ensures.1, missing _ _ _ c.in_err-place.ensures.value)
    (read-absent _ _ _ _ (sym c.check_form.ensures ∙ c.in_ok-check_form.was) (found-none _ _ _ (sym c.in_err-place.ensures.ok_part ∙ c.find.ensures)))

pub returns : goal.returns
unfolding form_checks
returns c =
    let there = found-some _ _ _ _ (sym c.in_ok-place.ensures.ok_part ∙ c.find.ensures) in
    rw there.1 (read-there _ _ _ _ (sym c.check_form.ensures ∙ c.in_ok-check_form.was) there.0)
