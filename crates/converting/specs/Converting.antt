-- Convert (document 02, card 5). Assumes nothing.
use Rattle.std.specs.Prelude.{cond, Ok, Err, List, ◌++◌, ℕ, length, drop}
use Rattle.answers.specs.Answers.{Answer, checked}
use Rattle.answers.specs.Refusals.{refusal}
use Rattle.answers.specs.declared.Ground.TheVariants.{TagDiffers, DoneAlready}
use Rattle.mem.specs.Mem.{start_of, old_start_of}
use Rattle.blockplan.specs.Parcel.{Mode, parcel_of, message_of, genuine}
use Rattle.checks.specs.Checks.{convert_checks}
use Rattle.modes.specs.Modes.{mode_of}

-- a mode under the old start and under the new one. If a parcel opens under the old start, its message is sealed again under the new one, in a parcel of the same
-- length, and output beyond it is unchanged; if not, and it opens under the new start, it is refused as done already; if neither, with 9. A refusal changes no output
unfoldable pub converted : Mode → Mode → List ℕ → List ℕ → List ℕ → Answer × List ℕ
converted old new header parcel out =
    cond (genuine old header parcel) (Ok (length parcel), parcel_of new header (message_of old parcel) ++ drop (length parcel) out)
    (cond (genuine new header parcel) (Err (refusal DoneAlready 0), out) (Err (refusal TagDiffers 0), out))

-- what convert answers and leaves in the output: its checks, then that, for the section 4 start and the new start under the same settings
unfoldable pub convert_call : ℕ → ℕ → List ℕ → List ℕ → List ℕ → List ℕ → List ℕ → Answer × List ℕ
convert_call mode rounds key nonce header parcel out =
    checked (convert_checks mode rounds (length key) (length nonce) (length header) (length parcel) (length out)) out
    (converted (mode_of mode rounds (old_start_of rounds key nonce)) (mode_of mode rounds (start_of rounds key nonce)) header parcel out)
