-- What the checks find is refused; where they are clear, the block reached is written. Assumes nothing.
use mathlib.Core.Path.{◌≡◌, ◌∙◌, sym}
use borrow.Author.Rules.{rules}
use Rattle.std.specs.Prelude.{Err}
use native.Mathlib.Omega.{arith}
use Rattle.answers.proofs.Values.{refused, allowed}
use Rattle.walking.specs.Walking.{walk_call}
use Rattle.walking.proofs.Answered.{walk-clear}
use Rattle.walking.proofs.walk.Goals as goal

pub returns-in_err-check_walk : goal.returns-in_err-check_walk
unfolding walk_call
returns-in_err-check_walk c =
    let answer : c.from_residual.result ≡ Err c.in_err-check_walk.field-0.0 = search rules in
    rw answer (refused _ _ _ c.check_walk.ensures c.in_err-check_walk.was)

pub load-requires : goal.load-requires
load-requires c = omega (arith, (walk-clear _ _ _ (sym c.check_walk.ensures ∙ c.in_ok-check_walk.was)).0)

pub store-requires : goal.store-requires
store-requires c = (walk-clear _ _ _ (sym c.check_walk.ensures ∙ c.in_ok-check_walk.was)).1

pub returns : goal.returns
unfolding walk_call
returns c =
    rw (c.store.ensures, c.take_all-end.ensures, c.load.ensures)
    (allowed _ _ c.check_walk.ensures c.in_ok-check_walk.was)
