-- What the checks find is refused; where they are clear, the parcel is written. Assumes nothing.
use mathlib.Core.Path.{◌≡◌, ◌∙◌, sym}
use borrow.Author.Rules.{rules}
use Rattle.std.specs.Prelude.{Err}
use Rattle.answers.proofs.Values.{refused, allowed}
use Rattle.checks.proofs.Clears.{seal-clear}
use Rattle.modes.specs.Modes.{mode_of}
use Rattle.sealing.specs.Sealing.{seal_from, seal_call}
use Rattle.sealing.proofs.seal.Goals as goal

pub returns-in_err-check_seal : goal.returns-in_err-check_seal
unfolding seal_call seal_from
returns-in_err-check_seal c =
    let found = rw c.request.ensures at c.check_seal.ensures in
    let answer : c.from_residual.result ≡ Err c.in_err-check_seal.field-0.0 = search rules in
    rw answer (refused _ _ _ found c.in_err-check_seal.was)

pub start-first-requires : goal.start-first-requires
start-first-requires c =
    let found = rw c.request.ensures at c.check_seal.ensures in
    (seal-clear _ _ _ _ _ _ _ (sym found ∙ c.in_ok-check_seal.was)).0

pub seal-requires : goal.seal-requires
seal-requires c =
    let found = rw c.request.ensures at c.check_seal.ensures in
    (seal-clear _ _ _ _ _ _ _ (sym found ∙ c.in_ok-check_seal.was)).1.1

pub returns : goal.returns
unfolding seal_call seal_from mode_of
returns c =
    let found = rw c.request.ensures at c.check_seal.ensures in
    rw (c.seal.ensures, c.start-first.ensures) (allowed _ _ found c.in_ok-check_seal.was)
