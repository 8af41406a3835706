-- The message's sum, and the tag from it. Assumes nothing.
use mathlib.Core.Path.{refl, ap, ◌∙◌}
use mathlib.Core.Bool.{false}
use mathlib.Core.List.{List}
use Prim.Native.Nat.{ℕ}
use Rattle.words.proofs.Arrays.{array-block}
use Rattle.blockplan.specs.Plan.{xor_over}
use Rattle.blockplan.specs.Pass.{made_at, under, stepping}
use Rattle.mro.specs.Mro.{blocks}
use Rattle.mro.proofs.Absorbed.{tag-block-is}
use Rattle.mro.proofs.sums.tag_block.Goals as goal

pub returns : goal.returns
returns c =
    let a = c.args in
    let message = a.message.now in
    let sum = c.absorb_all-sum.ensures
    ∙ ap (λ (b : List ℕ). xor_over (made_at (under false a.rounds (stepping b)) message) (blocks message)) c.beta-once.ensures in
    c.tag_from.ensures ∙ tag-block-is a.rounds a.start a.header.now message _ _ (array-block _ _ c.well_formed.0) sum refl
