-- The tag of the message, compared. Assumes nothing.
use mathlib.Core.Path.{ap, ◌∙◌}
use mathlib.Core.List.{List}
use Prim.Native.Nat.{ℕ}
use Rattle.blockplan.specs.Plan.{tag_bytes}
use Rattle.blockplan.specs.Parcel.{tag_part, same, genuine}
use Rattle.mro.specs.Mro.{mro_tag, mro_mode}
use Rattle.mro_converting.proofs.judge.Goals as goal

pub returns : goal.returns
unfolding genuine mro_mode mro_tag
returns c = c.agrees.ensures ∙ ap (λ (b : List ℕ). same (tag_bytes b) (tag_part c.args.parcel.now)) c.opened_tag.ensures
