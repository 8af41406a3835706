-- The call's answer, put into one number. Assumes nothing.
use mathlib.Core.Path.{ap}
use Prim.Native.Nat.{◌^◌}
use Rattle.answers.specs.Answers.{coded}
use Rattle.answers.proofs.Values.{answered-lt}
use Rattle.sealing.specs.Sealing.{seal_call}
use Rattle.sealing.proofs.Answered.{seal-small}
use Rattle.calmbaize.proofs.calmbaize_seal.Goals as goal

pub code-requires : goal.code-requires
unfolding seal_call
code-requires c = answered-lt (2 ^ 32) c.seal.ensures (seal-small _ _ _ _ _ _ _ _)

pub returns : goal.returns
unfolding coded
returns c = rw c.code.ensures (ap coded c.seal.ensures)
