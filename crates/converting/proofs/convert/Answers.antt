-- What the checks find is refused; where they are clear, the parcel is judged, under the old start first, and one of three ways is taken. Assumes nothing.
use mathlib.Core.Path.{◌≡◌, sym, ◌∙◌}
use borrow.Author.Rules.{rules}
use Rattle.std.specs.Prelude.{Err}
use Rattle.answers.proofs.Values.{refused, allowed}
use Rattle.checks.proofs.Clears.{convert-clear}
use Rattle.modes.specs.Modes.{mode_of}
use Rattle.converting.specs.Converting.{convert_call}
use Rattle.converting.proofs.Answered.{converted-where, done-where, neither-where}
use Rattle.converting.proofs.convert.Goals as goal

pub returns-in_err-check_convert : goal.returns-in_err-check_convert
unfolding convert_call
returns-in_err-check_convert c =
    let found = rw c.request.ensures at c.check_convert.ensures in
    let answer : c.from_residual.result ≡ Err c.in_err-check_convert.field-0.0 = search rules in
    rw answer (refused _ _ _ found c.in_err-check_convert.was)

pub start-old-requires : goal.start-old-requires
start-old-requires c = (convert-clear _ _ _ _ _ _ _ (sym (rw c.request.ensures at c.check_convert.ensures) ∙ c.in_ok-check_convert.was)).0

pub start-new-requires : goal.start-new-requires
start-new-requires c = (convert-clear _ _ _ _ _ _ _ (sym (rw c.request.ensures at c.check_convert.ensures) ∙ c.in_ok-check_convert.was)).0

pub judge-requires : goal.judge-requires
judge-requires c = (convert-clear _ _ _ _ _ _ _ (sym (rw c.request.ensures at c.check_convert.ensures) ∙ c.in_ok-check_convert.was)).1.0.0

pub reseal-requires : goal.reseal-requires
reseal-requires c =
    let h = (convert-clear _ _ _ _ _ _ _ (sym (rw c.request.ensures at c.check_convert.ensures) ∙ c.in_ok-check_convert.was)).1 in
    (h.0.0, h.1)

pub returns-then-judge : goal.returns-then-judge
unfolding convert_call mode_of
returns-then-judge c =
    let opens = sym (rw (c.start-old.ensures) at c.judge.ensures) ∙ c.if-judge.true in
    let written = rw (c.start-old.ensures, c.start-new.ensures) at c.reseal.ensures in
    converted-where _ _ _ _ _ _ opens written
    ∙ allowed _ _ (rw c.request.ensures at c.check_convert.ensures) c.in_ok-check_convert.was

pub judge-requires-2 : goal.judge-requires-2
judge-requires-2 c = (convert-clear _ _ _ _ _ _ _ (sym (rw c.request.ensures at c.check_convert.ensures) ∙ c.in_ok-check_convert.was)).1.0.0

pub returns-then-judge-2 : goal.returns-then-judge-2
unfolding convert_call mode_of
returns-then-judge-2 c =
    let shut = sym (rw (c.start-old.ensures) at c.judge.ensures) ∙ c.if-judge.false in
    let opens = sym (rw (c.start-new.ensures) at c.judge-2.ensures) ∙ c.if-judge-2.true in
    rw c.from.ensures
    (done-where _ _ _ _ _ shut opens
    ∙ allowed _ _ (rw c.request.ensures at c.check_convert.ensures) c.in_ok-check_convert.was)

pub returns : goal.returns
unfolding convert_call mode_of
returns c =
    let shut = sym (rw (c.start-old.ensures) at c.judge.ensures) ∙ c.if-judge.false in
    let shut-too = sym (rw (c.start-new.ensures) at c.judge-2.ensures) ∙ c.if-judge-2.false in
    rw c.from-2.ensures
    (neither-where _ _ _ _ _ shut shut-too
    ∙ allowed _ _ (rw c.request.ensures at c.check_convert.ensures) c.in_ok-check_convert.was)
