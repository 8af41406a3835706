-- What the checks find is refused; where they are clear, the parcel is opened, and its verdict answered. Assumes nothing.
use mathlib.Core.Path.{◌≡◌, ◌∙◌, sym}
use native.Mathlib.Omega.{arith}
use borrow.Author.Rules.{rules}
use Rattle.std.specs.Prelude.{Err}
use Rattle.answers.proofs.Values.{refused, allowed}
use Rattle.checks.proofs.Clears.{open-clear}
use Rattle.modes.specs.Modes.{mode_of}
use Rattle.sealing.specs.Sealing.{open_from}
use Rattle.sealing.proofs.Answered.{done-where, nine-where}
use Rattle.sealing.proofs.open_from.Goals as goal

pub returns-in_err-check_open : goal.returns-in_err-check_open
unfolding open_from
returns-in_err-check_open c =
    let found = rw c.request.ensures at c.check_open.ensures in
    let answer : c.from_residual.result ≡ Err c.in_err-check_open.field-0.0 = search rules in
    rw answer (refused _ _ _ found c.in_err-check_open.was)

pub overflow_sub-written : goal.overflow_sub-written
overflow_sub-written c =
    let found = rw c.request.ensures at c.check_open.ensures in
    (open-clear _ _ _ _ _ _ _ (sym found ∙ c.in_ok-check_open.was)).1.0.0

pub start-first-requires : goal.start-first-requires
start-first-requires c =
    let found = rw c.request.ensures at c.check_open.ensures in
    (open-clear _ _ _ _ _ _ _ (sym found ∙ c.in_ok-check_open.was)).0

pub open-requires : goal.open-requires
open-requires c =
    let found = rw c.request.ensures at c.check_open.ensures in
    let h = (open-clear _ _ _ _ _ _ _ (sym found ∙ c.in_ok-check_open.was)).1 in
    (h.0.0, omega (arith, h.1))

pub returns-then-open : goal.returns-then-open
unfolding open_from mode_of
returns-then-open c =
    let found = rw c.request.ensures at c.check_open.ensures in
    done-where _ (rw (c.start-first.ensures) at c.«open».ensures) c.if-open.true
    ∙ allowed _ _ found c.in_ok-check_open.was

pub returns-else-open : goal.returns-else-open
unfolding open_from mode_of
returns-else-open c =
    let found = rw c.request.ensures at c.check_open.ensures in
    rw c.from-differs.ensures
    (nine-where _ (rw (c.start-first.ensures) at c.«open».ensures) c.if-open.false
    ∙ allowed _ _ found c.in_ok-check_open.was)
