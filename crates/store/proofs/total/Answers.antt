use mathlib.Core.Path.{◌∙◌}
use Rattle.store.specs.Store.{total_call, total_checks}
use Rattle.store.proofs.Calls.{error-is, key-clear, total-stopped, total-on}
use Rattle.store.proofs.total.Goals as goal

pub returns-in_err-key : goal.returns-in_err-key
unfolding total_call total_checks
returns-in_err-key c = rw (error-is _ c.from_residual.ensures.1) (total-stopped _ _ _ _ c.in_err-key.ensures)

pub sum_up-requires : goal.sum_up-requires
sum_up-requires c = (key-clear _ _ c.in_ok-key.ensures.1).1

pub returns : goal.returns
unfolding total_call total_checks
returns c = c.sum_up.ensures ∙ rw c.in_ok-key.ensures.0 (total-on _ _ _ _ c.in_ok-key.ensures.1)
