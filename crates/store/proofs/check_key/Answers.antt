-- The key's length, and then the store's form. Assumes nothing.
use mathlib.Core.Path.{sym, ◌∙◌}
use borrow.Author.Tests.{eq-eqb, ne_eqb}
use Rattle.answers.specs.Answers.{line, line_at}
use Rattle.store.specs.Store.{key_checks, form_checks}
use Rattle.store.proofs.Calls.{error-is}
use Rattle.store.proofs.check_key.Goals as goal

pub returns-in_default : goal.returns-in_default
unfolding key_checks line line_at
returns-in_default c = rw (ne_eqb _ 32 c.in_default.ensures.1, c.from.ensures)

pub returns-in_err-check_form : goal.returns-in_err-check_form
unfolding key_checks form_checks line line_at
returns-in_err-check_form c = rw (error-is _ c.from_residual.ensures.1) (rw (eq-eqb _ 32 c.in-Ok.ensures.1.long) (sym c.check_form.ensures ∙ c.in_err-check_form.was))

pub returns : goal.returns
unfolding key_checks form_checks line line_at
returns c = (c.in-Ok.ensures.1.same, rw (eq-eqb _ 32 c.in-Ok.ensures.1.long) (sym c.check_form.ensures ∙ c.in_ok-check_form.was))
