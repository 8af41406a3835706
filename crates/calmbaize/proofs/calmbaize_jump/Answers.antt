-- The call's answer, put into one number. Assumes nothing.
use mir.Facts.{to_z-of_z}
use mathlib.Core.Path.{ap}
use Prim.Native.Nat.{◌^◌}
use Rattle.answers.specs.Answers.{coded}
use Rattle.answers.proofs.Values.{answered-lt}
use Rattle.walking.proofs.Answered.{jump_small}
use Rattle.calmbaize.proofs.calmbaize_jump.Goals as goal

pub code-requires : goal.code-requires
code-requires c = answered-lt (2 ^ 32) c.jump.ensures (jump_small _ _ _ _ _)

pub returns : goal.returns
unfolding coded
returns c =
    let fits = c.ranges in
    rw c.code.ensures (ap coded (rw (to_z-of_z fits.alpha, to_z-of_z fits.beta, to_z-of_z fits.gamma) at c.jump.ensures))
