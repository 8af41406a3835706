-- The loop's invariant: the bytes before place i are steps. Assumes nothing.
use mathlib.Core.Path.{refl, sym, ◌∙◌, ◌≡◌}
use mathlib.Core.Bool.{true, false, true≢false}
use Prim.Native.Nat.{ℕ, ◌<◌}
use native.Mathlib.Omega.{arith}
use native.Mathlib.Nat.{add-zero}
use lib.ListN.{length, drop_of_length-le}
use Rattle.std.specs.Prelude.{Result, Ok, Err, is_err}
use Rattle.walking.specs.declared.steps.Step.{Step}
use Rattle.walking.specs.declared.steps.Step.TheVariants.{Alpha, Beta, Gamma, BackAlpha, BackBeta, BackGamma}
use Rattle.walking.specs.declared.steps.UnknownStep.{UnknownStep}
use Rattle.walking.specs.Walking.{first_bad, is_step, StepRead, step_number}
use Rattle.walking.proofs.Places.{bad-here, step-here}
use Rattle.walking.proofs.steps.first_bad.Goals as goal
use Rattle.walking.proofs.steps.first_bad.Goals.{then-i-list-via-then-i-list, then-i-list-via-else-i-list+then-is_err}

-- the number of each step is a step byte
number_is_step : (s : Step) → is_step (step_number s) ≡ true
unfolding is_step
number_is_step Alpha = refl
number_is_step Beta = refl
number_is_step Gamma = refl
number_is_step BackAlpha = refl
number_is_step BackBeta = refl
number_is_step BackGamma = refl

-- a byte that is read as a step is one
read : (k : ℕ) (r : Result Step UnknownStep) → StepRead k r → is_err r ≡ false → is_step k ≡ true
read k (Ok s) d e = rw d at (number_is_step s)
read k (Err x) d e = absurd (true≢false e)

-- a byte that is read as none is none
unread : (k : ℕ) (r : Result Step UnknownStep) → StepRead k r → is_err r ≡ true → is_step k ≡ false
unread k (Ok s) d e = absurd (true≢false (sym e))
unread k (Err x) d e = d.1

pub loop-i-preserved : goal.loop-i-preserved
loop-i-preserved c =
    let at = c.loop-i in
    let list = c.args.list.now in
    let h : at.i < length list = omega arith in
    (omega arith, at.invariant.1 ∙ rw (step-here list at.i h (read _ _ c.try_from.ensures (sym c.is_err.ensures.value ∙ c.if-is_err.false))) (omega arith))

pub returns : goal.returns
unfolding first_bad
returns c =
    let at = c.loop-i in
    elim c.then-i-list.branch [
      | then-i-list-via-then-i-list w ↦ sym (at.invariant.1 ∙ rw (drop_of_length-le c.args.list.now {i = at.i} (omega arith)) (add-zero at.i))
      | then-i-list-via-else-i-list+then-is_err w ↦
          sym (at.invariant.1 ∙ rw (bad-here c.args.list.now at.i w.if-i-list.false (unread _ _ w.try_from.ensures (sym w.is_err.ensures.value ∙ w.if-is_err.true))) (add-zero at.i))
    ]
