-- What was named, taken out of its chain. Assumes nothing.
use mathlib.Core.Path.{sym, ◌∙◌}
use Rattle.store.proofs.Calls.{error-is, named-inside, cancel-done, cancel-refused}
use Rattle.store.proofs.cancel.Goals as goal

pub returns-in_err-named : goal.returns-in_err-named
returns-in_err-named c = rw (error-is _ c.from_residual.ensures.1) (cancel-refused _ _ _ _ (sym c.in_err-named.was ∙ c.open_named.ensures))

pub empty-requires : goal.empty-requires
empty-requires c = named-inside _ _ _ _ (sym c.in_ok-named.was ∙ c.open_named.ensures)

pub returns : goal.returns
returns c = rw c.from.ensures (cancel-done _ _ _ _ (sym c.in_ok-named.was ∙ c.open_named.ensures) _ c.empty.ensures)
