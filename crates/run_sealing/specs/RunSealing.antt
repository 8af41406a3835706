-- Seal and open from a run of words in a lent buffer (document 02, card 6). Assumes nothing.
use Rattle.std.specs.Prelude.{List, Ok, ◌++◌, ℕ, ◌+◌, ◌-◌, length, drop}
use Rattle.answers.specs.Answers.{Answer, checked}
use Rattle.masks.specs.Run.{grown}
use Rattle.mem.specs.Mem.{start_of}
use Rattle.blockplan.specs.Parcel.{parcel_of, opened}
use Rattle.checks.specs.Checks.{run_length, seal_run_checks, open_run_checks}
use Rattle.modes.specs.Modes.{mode_of}
use Rattle.sealing.specs.Sealing.{verdict}

-- the buffer after success or 9: its first n words hold the run of the start, and the rest is unchanged
unfoldable pub run_in : List ℕ → ℕ → List ℕ → List ℕ
run_in start n words = grown start (n - 16) ++ drop n words

module _ (mode rounds : ℕ) (key nonce header : List ℕ) where
  -- what sealing from a run answers and leaves in the output and in the words: its checks, then what seal writes, and the run
  unfoldable pub seal_run_call : List ℕ → List ℕ → List ℕ → Answer × (List ℕ × List ℕ)
  seal_run_call message out words =
      checked (seal_run_checks mode rounds (length key) (length nonce) (length header) (length message) (length out) (length words)) (out, words) (
        Ok (length message + 32),
        (
          parcel_of (mode_of mode rounds (start_of rounds key nonce)) header message ++ drop (length message + 32) out,
          run_in (start_of rounds key nonce) (run_length (length header) (length message)) words,
        ),
      )

  -- what opening from a run answers and leaves in the output and in the words: its checks, then what open writes, and the run, with 9 too
  unfoldable pub open_run_call : List ℕ → List ℕ → List ℕ → Answer × (List ℕ × List ℕ)
  open_run_call parcel out words =
      let result = verdict (length parcel - 32) (opened (mode_of mode rounds (start_of rounds key nonce)) header parcel out) in
      checked (open_run_checks mode rounds (length key) (length nonce) (length header) (length parcel) (length out) (length words)) (out, words) (
        result.0,
        (result.1, run_in (start_of rounds key nonce) (run_length (length header) (length parcel - 32)) words),
      )
