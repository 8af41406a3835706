use mathlib.Core.Path.{sym, ap, ◌∙◌}
use Rattle.std.specs.Prelude.{Err}
use Rattle.std.proofs.lemmas.Result.{err_from_is_err_and}
use Rattle.cells.specs.Faults.{fault_check}
use Rattle.chains.proofs.form.check_form.Goals as goal

pub returns-in_err-first_fault : goal.returns-in_err-first_fault
unfolding fault_check
returns-in_err-first_fault c = let h = err_from_is_err_and _ c.from_residual.ensures.1 in h.1 ∙ ap Err h.2 ∙ rw (sym c.first_fault.ensures ∙ c.in_err-first_fault.was)

pub returns : goal.returns
unfolding fault_check
returns c = rw (sym c.first_fault.ensures ∙ c.in_ok-first_fault.was)
