-- Seal and open (document 01, "Entry points and where each call is checked"; document 02, card 4, for their starts). Assumes nothing.
use Rattle.std.specs.Prelude.{Bool, cond, Ok, Err, List, ◌++◌, ℕ, ◌+◌, ◌-◌, length, drop}
use Rattle.answers.specs.Answers.{Answer, checked}
use Rattle.answers.specs.Refusals.{refusal}
use Rattle.answers.specs.declared.Ground.TheVariants.{TagDiffers}
use Rattle.mem.specs.Mem.{start_of, old_start_of}
use Rattle.blockplan.specs.Parcel.{parcel_of, opened}
use Rattle.checks.specs.Checks.{seal_checks, open_checks}
use Rattle.modes.specs.Modes.{mode_of}

-- success where the parcel is genuine, refusal 9 where a byte of its tag differs
unfoldable pub verdict : ℕ → Bool × List ℕ → Answer × List ℕ
verdict n r = (cond r.0 (Ok n) (Err (refusal TagDiffers 0)), r.1)

-- the calls, for a start that is made of the round count, the key and the nonce
module _ (start : ℕ → List ℕ → List ℕ → List ℕ) (mode rounds : ℕ) (key nonce header : List ℕ) where
  -- what seal answers and leaves in the output: its checks, then the parcel; output beyond it is unchanged
  unfoldable pub seal_from : List ℕ → List ℕ → Answer × List ℕ
  seal_from message out =
      checked (seal_checks mode rounds (length key) (length nonce) (length header) (length message) (length out)) out (
        Ok (length message + 32),
        parcel_of (mode_of mode rounds (start rounds key nonce)) header message ++ drop (length message + 32) out,
      )

  -- what open answers and leaves in the output: its checks, then the message, or 9 and zeros in its place; output beyond it is unchanged
  unfoldable pub open_from : List ℕ → List ℕ → Answer × List ℕ
  open_from parcel out =
      checked (open_checks mode rounds (length key) (length nonce) (length header) (length parcel) (length out)) out
      (verdict (length parcel - 32) (opened (mode_of mode rounds (start rounds key nonce)) header parcel out))

-- seal, under section 8's start
unfoldable pub seal_call : ℕ → ℕ → List ℕ → List ℕ → List ℕ → List ℕ → List ℕ → Answer × List ℕ
seal_call = seal_from start_of

-- open, under the same start
unfoldable pub open_call : ℕ → ℕ → List ℕ → List ℕ → List ℕ → List ℕ → List ℕ → Answer × List ℕ
open_call = open_from start_of

-- the call of its own that opens under the section 4 start: checked as open, and with open's effects
unfoldable pub open_old_call : ℕ → ℕ → List ℕ → List ℕ → List ℕ → List ℕ → List ℕ → Answer × List ℕ
open_old_call = open_from old_start_of
