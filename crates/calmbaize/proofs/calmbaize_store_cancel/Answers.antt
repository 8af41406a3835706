-- The call's answer, put into one number. Assumes nothing.
use borrow.Author.Rules.{rules}
use mathlib.Core.Path.{ap}
use Prim.Native.Nat.{◌^◌}
use Rattle.answers.specs.Answers.{coded}
use Rattle.answers.proofs.Values.{answered-lt}
use Rattle.store.proofs.Small.{cancel-small}
use Rattle.calmbaize.proofs.calmbaize_store_cancel.Goals as goal

pub code-requires : goal.code-requires
code-requires c =
    answered-lt (2 ^ 32) c.cancel.ensures (cancel-small _ _ _ _ (record { bytes = λ i. search (rules, c.well_formed) }))

pub returns : goal.returns
unfolding coded
returns c = rw c.code.ensures (ap coded c.cancel.ensures)
