-- What the checks find is refused; where they are clear, the block reached is written. Assumes nothing.
use mathlib.Core.Path.{◌≡◌, ◌∙◌, sym}
use borrow.Author.Rules.{rules}
use Rattle.std.specs.Prelude.{Err}
use native.Mathlib.Omega.{arith}
use mir.Facts.{to_z-of_z}
use Rattle.answers.proofs.Values.{refused, allowed}
use Rattle.masks.specs.Steps.{alpha, beta, gamma}
use Rattle.back_steps.specs.BackSteps.{back_alpha, back_beta, back_gamma}
use Rattle.walking.specs.Walking.{jump_call, jumped}
use Rattle.walking.proofs.Answered.{jump-clear}
use Rattle.walking.proofs.jump.Goals as goal

pub returns-in_err-check_jump : goal.returns-in_err-check_jump
unfolding jump_call
returns-in_err-check_jump c =
    let fits = c.ranges in
    let answer : c.from_residual.result ≡ Err c.in_err-check_jump.field-0.0 = search rules in
    rw answer (refused _ _ _ (rw (to_z-of_z fits.alpha, to_z-of_z fits.beta, to_z-of_z fits.gamma) at c.check_jump.ensures) c.in_err-check_jump.was)

pub load-requires : goal.load-requires
load-requires c = omega (arith, (jump-clear _ _ _ _ _ (sym c.check_jump.ensures ∙ c.in_ok-check_jump.was)).0)

pub store-requires : goal.store-requires
store-requires c = (jump-clear _ _ _ _ _ (sym c.check_jump.ensures ∙ c.in_ok-check_jump.was)).1

pub returns : goal.returns
unfolding jump_call jumped
returns c =
    let fits = c.ranges in
    let one = c.repeat_net-one.ensures alpha back_alpha (λ b r e. e.1) (λ b r e. e.1.0) in
    let two = c.repeat_net-two.ensures beta back_beta (λ b r e. e.1) (λ b r e. e.1.0) in
    let three = c.repeat_net-three.ensures gamma back_gamma (λ b r e. e.1) (λ b r e. e.1.0) in
    rw (c.store.ensures, three, two, one, c.load.ensures, to_z-of_z fits.alpha, to_z-of_z fits.beta, to_z-of_z fits.gamma)
    (allowed _ _ (rw (to_z-of_z fits.alpha, to_z-of_z fits.beta, to_z-of_z fits.gamma) at c.check_jump.ensures) c.in_ok-check_jump.was)
