-- What the checks find of a message's and a parcel's length where the settings pass, as the prover looks for it. Assumes nothing.
use mathlib.Core.Path.{◌≡◌, ◌∙◌}
use Prim.Native.Nat.{ℕ, ◌+◌, ◌-◌, ◌≤◌, ◌<◌}
use lib.Dec.{ltb}
use borrow.Author.Tests.{lt-ltb, le-ltb}
use Rattle.std.specs.Prelude.{Err}
use Rattle.answers.specs.Refusals.{refusal}
use Rattle.answers.specs.Answers.{line_at, line, clear, room}
use Rattle.answers.specs.declared.Refusal.{Refusal}
use Rattle.answers.specs.declared.Ground.TheVariants.{InputLength, TagMissing}
use Rattle.answers.proofs.Values.{stopped, passed_on}
use Rattle.checks.specs.Checks.{settings, seal_inputs, open_inputs, seal_checks, open_checks, convert_checks, run_length, seal_run_checks, open_run_checks}
use Rattle.checks.proofs.Clears.{settings-after, seal-after, seal-inputs, open_after, open-inputs, open-clear}
use Rattle.checks.proofs.Runs.{seal-run-after, open-run-after}

module _ (mode rounds key nonce header : ℕ) where
  pub message_long : (message : ℕ) → settings mode rounds key nonce header clear ≡ clear → 65536 < message → seal_inputs mode rounds key nonce header message clear ≡ Err (refusal InputLength 0)
  unfolding seal_inputs line line_at
  message_long n e h = passed_on _ _ (settings-after _ _ _ _ _ (line (ltb 65536 n) InputLength clear)) e ∙ rw (lt-ltb 65536 n h)

  pub message_fits : (message : ℕ) → settings mode rounds key nonce header clear ≡ clear → message ≤ 65536 → seal_inputs mode rounds key nonce header message clear ≡ clear
  unfolding seal_inputs line line_at
  message_fits n e h = passed_on _ _ (settings-after _ _ _ _ _ (line (ltb 65536 n) InputLength clear)) e ∙ rw (le-ltb 65536 n h)

  pub parcel_short : (parcel : ℕ) → settings mode rounds key nonce header clear ≡ clear → parcel < 32 → open_inputs mode rounds key nonce header parcel clear ≡ Err (refusal TagMissing 0)
  unfolding open_inputs line line_at
  parcel_short n e h =
      passed_on _ _ (settings-after _ _ _ _ _ (line (ltb n 32) TagMissing (line (ltb 65568 n) InputLength clear))) e ∙ rw (lt-ltb n 32 h)

  pub parcel_long : (parcel : ℕ) → settings mode rounds key nonce header clear ≡ clear → 32 ≤ parcel → 65568 < parcel → open_inputs mode rounds key nonce header parcel clear ≡ Err (refusal InputLength 0)
  unfolding open_inputs line line_at
  parcel_long n e g h =
      passed_on _ _ (settings-after _ _ _ _ _ (line (ltb n 32) TagMissing (line (ltb 65568 n) InputLength clear))) e
      ∙ rw (le-ltb n 32 g, lt-ltb 65568 n h)

  pub parcel_fits : (parcel : ℕ) → settings mode rounds key nonce header clear ≡ clear → 32 ≤ parcel → parcel ≤ 65568 → open_inputs mode rounds key nonce header parcel clear ≡ clear
  unfolding open_inputs line line_at
  parcel_fits n e g h =
      passed_on _ _ (settings-after _ _ _ _ _ (line (ltb n 32) TagMissing (line (ltb 65568 n) InputLength clear))) e
      ∙ rw (le-ltb n 32 g, le-ltb 65568 n h)

  -- ---- what the first checks find is what all find; where they are clear, the room decides

  pub message_stopped : (message : ℕ) {why : Refusal} → settings mode rounds key nonce header clear ≡ Err why → seal_inputs mode rounds key nonce header message clear ≡ Err why
  unfolding seal_inputs
  message_stopped n e = stopped _ _ (settings-after _ _ _ _ _ _) e

  pub parcel_stopped : (parcel : ℕ) {why : Refusal} → settings mode rounds key nonce header clear ≡ Err why → open_inputs mode rounds key nonce header parcel clear ≡ Err why
  unfolding open_inputs
  parcel_stopped n e = stopped _ _ (settings-after _ _ _ _ _ _) e

  module _ (input out : ℕ) where
    pub message_most : seal_inputs mode rounds key nonce header input clear ≡ clear → input ≤ 65536
    message_most e = (seal-inputs _ _ _ _ _ _ e).1

    pub parcel_least : open_inputs mode rounds key nonce header input clear ≡ clear → 32 ≤ input
    parcel_least e = (open-inputs _ _ _ _ _ _ e).1.0

    pub open_least : open_checks mode rounds key nonce header input out ≡ clear → 32 ≤ input
    open_least e = (open-clear _ _ _ _ _ _ _ e).1.0.0

    pub seal_stopped : {why : Refusal} → seal_inputs mode rounds key nonce header input clear ≡ Err why → seal_checks mode rounds key nonce header input out ≡ Err why
    unfolding seal_checks
    seal_stopped e = stopped _ _ (seal-after _ _ _ _ _ _ _) e

    pub seal_room : seal_inputs mode rounds key nonce header input clear ≡ clear → seal_checks mode rounds key nonce header input out ≡ room (input + 32) out clear
    unfolding seal_checks
    seal_room e = passed_on _ _ (seal-after _ _ _ _ _ _ _) e

    pub open_stopped : {why : Refusal} → open_inputs mode rounds key nonce header input clear ≡ Err why → open_checks mode rounds key nonce header input out ≡ Err why
    unfolding open_checks
    open_stopped e = stopped _ _ (open_after _ _ _ _ _ _ _) e

    pub open_room : open_inputs mode rounds key nonce header input clear ≡ clear → open_checks mode rounds key nonce header input out ≡ room (input - 32) out clear
    unfolding open_checks
    open_room e = passed_on _ _ (open_after _ _ _ _ _ _ _) e

    pub convert_stopped : {why : Refusal} → open_inputs mode rounds key nonce header input clear ≡ Err why → convert_checks mode rounds key nonce header input out ≡ Err why
    unfolding convert_checks
    convert_stopped e = stopped _ _ (open_after _ _ _ _ _ _ _) e

    pub convert_room : open_inputs mode rounds key nonce header input clear ≡ clear → convert_checks mode rounds key nonce header input out ≡ room input out clear
    unfolding convert_checks
    convert_room e = passed_on _ _ (open_after _ _ _ _ _ _ _) e

    module _ (words : ℕ) where
      pub seal_run_stopped : {why : Refusal} → seal_checks mode rounds key nonce header input out ≡ Err why → seal_run_checks mode rounds key nonce header input out words ≡ Err why
      seal_run_stopped e = stopped _ _ (seal-run-after _ _ _ _ _ _ _ _) e

      pub seal_run_room : seal_checks mode rounds key nonce header input out ≡ clear
          → seal_run_checks mode rounds key nonce header input out words ≡ room (run_length header input) words clear
      seal_run_room e = passed_on _ _ (seal-run-after _ _ _ _ _ _ _ _) e

      pub open_run_stopped : {why : Refusal} → open_checks mode rounds key nonce header input out ≡ Err why → open_run_checks mode rounds key nonce header input out words ≡ Err why
      open_run_stopped e = stopped _ _ (open-run-after _ _ _ _ _ _ _ _) e

      pub open_run_room : open_checks mode rounds key nonce header input out ≡ clear
          → open_run_checks mode rounds key nonce header input out words ≡ room (run_length header (input - 32)) words clear
      open_run_room e = passed_on _ _ (open-run-after _ _ _ _ _ _ _ _) e
