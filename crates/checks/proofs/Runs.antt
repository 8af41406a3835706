-- Laws of the checks of sealing and opening from a run: those of seal and open come first, what holds where all are clear, and that their places are 0. Assumes nothing.
use mathlib.Core.Path.{◌≡◌, refl, sym, ap, ◌∙◌}
use mathlib.Core.Bool.{Bool, true, false, cond}
use Prim.Native.Nat.{ℕ, ◌+◌, ◌-◌, ◌/◌, ◌≤◌, ◌<◌}
use native.Mathlib.Omega.{arith}
use lib.Dec.{ltb}
use borrow.Author.Tests.{ltb-true, ltb-false, le-ltb}
use Rattle.std.specs.Prelude.{Ok, Err}
use Rattle.answers.specs.Answers.{room, line, line_at, Check, clear}
use Rattle.answers.proofs.Values.{place_of, after, line_after, after-clear, room-clear}
use Rattle.checks.specs.Checks.{settings, seal_inputs, open_inputs, seal_checks, open_checks, larger, run_length, seal_run_checks, open_run_checks}
use Rattle.checks.proofs.Clears.{room-place, seal-place, open-place}

-- the run reaches over both
larger-both : (a b : ℕ) (t : Bool) → ltb a b ≡ t → (a ≤ cond t b a) × (b ≤ cond t b a)
larger-both a b true e = (omega (arith, ltb-true a b e), omega arith)
larger-both a b false e = (omega arith, omega (arith, ltb-false a b e))

-- the larger of two is one of them
-- which blocks the run's words suffice for
pub run_long : (header message : ℕ) → (header / 128 + 21 ≤ run_length header message) × (message / 128 + 21 ≤ run_length header message)
unfolding run_length larger
run_long header message =
    let most = larger-both (header / 128) (message / 128) _ refl in
    (omega (arith, most.0), omega (arith, most.1))

-- a buffer that is long enough passes
enough : (needed lent : ℕ) → needed ≤ lent → room needed lent clear ≡ clear
unfolding room line line_at
enough needed lent h = rw (le-ltb lent needed h)

after-place : (c next : Check) (n : ℕ) → place_of c < n → place_of next < n → place_of (after c next) < n
unfolding after
after-place (Ok none) next n h k = k
after-place (Err found) next n h k = h

module _ (mode rounds key nonce header : ℕ) where
  pub seal-run-after : (message out words : ℕ) → seal_run_checks mode rounds key nonce header message out words
      ≡ after (seal_checks mode rounds key nonce header message out) (room (run_length header message) words clear)
  unfolding seal_run_checks seal_checks seal_inputs settings room after
  seal-run-after message out words = simp (← line_after)

  pub open-run-after : (parcel out words : ℕ) → open_run_checks mode rounds key nonce header parcel out words
      ≡ after (open_checks mode rounds key nonce header parcel out) (room (run_length header (parcel - 32)) words clear)
  unfolding open_run_checks open_checks open_inputs settings room after
  open-run-after parcel out words = simp (← line_after)

  -- what the work may count on
  pub seal-run-clear : (message out words : ℕ) → seal_run_checks mode rounds key nonce header message out words ≡ clear
      → (seal_checks mode rounds key nonce header message out ≡ clear) × (run_length header message ≤ words)
  seal-run-clear message out words e =
      let a = after-clear _ _ (sym (seal-run-after message out words) ∙ e) in
      (a.0, (room-clear (run_length header message) words clear a.1).0)

  pub open-run-clear : (parcel out words : ℕ) → open_run_checks mode rounds key nonce header parcel out words ≡ clear
      → (open_checks mode rounds key nonce header parcel out ≡ clear) × (run_length header (parcel - 32) ≤ words)
  open-run-clear parcel out words e =
      let a = after-clear _ _ (sym (open-run-after parcel out words) ∙ e) in
      (a.0, (room-clear (run_length header (parcel - 32)) words clear a.1).0)

  -- ---- with words enough

  pub seal-run-same : (message out words : ℕ) → run_length header message ≤ words
      → seal_run_checks mode rounds key nonce header message out words ≡ seal_checks mode rounds key nonce header message out
  unfolding seal_run_checks seal_checks
  seal-run-same message out words h = ap (λ (c : Check). seal_inputs mode rounds key nonce header message (room (message + 32) out c)) (enough (run_length header message) words h)

  pub open-run-same : (parcel out words : ℕ) → run_length header (parcel - 32) ≤ words
      → open_run_checks mode rounds key nonce header parcel out words ≡ open_checks mode rounds key nonce header parcel out
  unfolding open_run_checks open_checks
  open-run-same parcel out words h = ap (λ (c : Check). open_inputs mode rounds key nonce header parcel (room (parcel - 32) out c)) (enough (run_length header (parcel - 32)) words h)

  -- ---- their places are 0

  pub seal-run-place : (message out words n : ℕ) → 0 < n → place_of (seal_run_checks mode rounds key nonce header message out words) < n
  seal-run-place message out words n z =
      rw (seal-run-after message out words)
      (after-place (seal_checks mode rounds key nonce header message out) _ n (seal-place mode rounds key nonce header message out n z) (room-place (run_length header message) words n z))

  pub open-run-place : (parcel out words n : ℕ) → 0 < n → place_of (open_run_checks mode rounds key nonce header parcel out words) < n
  open-run-place parcel out words n z =
      rw (open-run-after parcel out words)
      (after-place (open_checks mode rounds key nonce header parcel out) _ n (open-place mode rounds key nonce header parcel out n z) (room-place (run_length header (parcel - 32)) words n z))
