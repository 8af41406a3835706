-- What the checks find, or the reason. Assumes nothing.
use mathlib.Core.Path.{◌≡◌, sym, ◌∙◌}
use borrow.Author.Rules.{rules}
use Rattle.std.specs.Prelude.{Err}
use Rattle.answers.proofs.Values.{refused-or, allowed-or}
use Rattle.checks.proofs.Clears.{parcel-clear}
use Rattle.diagnosing.specs.Diagnosing.{setting, start_under, diagnose_call}
use Rattle.diagnosing.proofs.diagnose.Goals as goal

pub returns-in_err-check_parcel : goal.returns-in_err-check_parcel
unfolding diagnose_call
returns-in_err-check_parcel c =
    let found = rw c.request.ensures at c.check_parcel.ensures in
    let answer : c.from_residual.result ≡ Err c.in_err-check_parcel.field-0.0 = search rules in
    rw answer (refused-or _ _ _ found c.in_err-check_parcel.was)

pub start-known-requires : goal.start-known-requires
start-known-requires c =
    let found = rw c.request.ensures at c.check_parcel.ensures in
    (parcel-clear _ _ _ _ _ _ (sym found ∙ c.in_ok-check_parcel.was)).0

pub invariant_of-trial : goal.invariant_of-trial
unfolding start_under
invariant_of-trial c =
    let found = rw c.request.ensures at c.check_parcel.ensures in
    let clear = parcel-clear _ _ _ _ _ _ (sym found ∙ c.in_ok-check_parcel.was) in
    record { lengths = clear.0; tagged = clear.1; started = c.start-known.ensures }

pub returns : goal.returns
unfolding diagnose_call setting
returns c =
    let found = rw c.request.ensures at c.check_parcel.ensures in
    rw c.reason.ensures (allowed-or _ _ found c.in_ok-check_parcel.was)
