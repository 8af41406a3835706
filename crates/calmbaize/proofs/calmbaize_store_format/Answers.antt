-- The call's answer, put into one number. Assumes nothing.
use mathlib.Core.Path.{ap}
use Prim.Native.Nat.{◌^◌}
use Rattle.answers.specs.Answers.{coded}
use Rattle.answers.proofs.Values.{answered-lt}
use Rattle.store.proofs.Small.{format_small}
use Rattle.calmbaize.proofs.calmbaize_store_format.Goals as goal

pub code-requires : goal.code-requires
code-requires c = answered-lt (2 ^ 32) c.format.ensures (format_small _)

pub returns : goal.returns
unfolding coded
returns c = rw c.code.ensures (ap coded c.format.ensures)
