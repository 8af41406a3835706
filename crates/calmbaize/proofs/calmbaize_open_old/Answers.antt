-- The call's answer, put into one number. Assumes nothing.
use mathlib.Core.Path.{ap}
use Prim.Native.Nat.{◌^◌}
use Rattle.answers.specs.Answers.{coded}
use Rattle.answers.proofs.Values.{answered-lt}
use Rattle.sealing.specs.Sealing.{open_old_call}
use Rattle.sealing.proofs.Answered.{open-small}
use Rattle.calmbaize.proofs.calmbaize_open_old.Goals as goal

pub code-requires : goal.code-requires
unfolding open_old_call
code-requires c = answered-lt (2 ^ 32) c.open_old.ensures (open-small _ _ _ _ _ _ _ _)

pub returns : goal.returns
unfolding coded
returns c = rw c.code.ensures (ap coded c.open_old.ensures)
