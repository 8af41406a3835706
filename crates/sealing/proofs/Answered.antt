-- The verdict on a parcel, and that what seal and open answer is small. Assumes nothing.
use mathlib.Core.Path.{◌≡◌, sym, ap, ◌∙◌}
use mathlib.Core.Bool.{Bool, true, false, cond}
use mathlib.Core.List.{List}
use Prim.Native.Nat.{ℕ, ◌-◌, ◌^◌, ◌<◌}
use native.Mathlib.Omega.{arith}
use lib.Dec.{lit<}
use lib.ListN.{length}
use Rattle.words.proofs.Truth.{pick}
use Rattle.std.specs.Prelude.{Ok, Err}
use Rattle.answers.specs.Answers.{value_of}
use Rattle.answers.specs.Refusals.{refusal}
use Rattle.answers.specs.declared.Ground.TheVariants.{TagDiffers}
use Rattle.answers.proofs.Values.{checked-lt}
use Rattle.checks.proofs.Clears.{seal-clear, seal-place, open-clear, open-place}
use Rattle.sealing.specs.Sealing.{verdict, seal_from, open_from}

-- ---- the verdict

module _ (n : ℕ) {right : Bool} {out : List ℕ} {o : Bool × List ℕ} (e : (right, out) ≡ o) where
  pub done-where : right ≡ true → (Ok n, out) ≡ verdict n o
  unfolding verdict
  done-where q = sym (ap (λ (b : Bool). (cond b (Ok n) (Err (refusal TagDiffers 0)), out)) q) ∙ ap (verdict n) e

  pub nine-where : right ≡ false → (Err (refusal TagDiffers 0), out) ≡ verdict n o
  unfolding verdict
  nine-where q = sym (ap (λ (b : Bool). (cond b (Ok n) (Err (refusal TagDiffers 0)), out)) q) ∙ ap (verdict n) e

-- ---- the answer is small

pub verdict-lt : (n k : ℕ) (r : Bool × List ℕ) → k < n → 0 < n → value_of (verdict k r).0 < n
unfolding verdict
verdict-lt n k r h g = pick (λ a. value_of a < n) r.0 (Ok k) (Err (refusal TagDiffers 0)) h g

module _ (start : ℕ → List ℕ → List ℕ → List ℕ) (mode rounds : ℕ) (key nonce header input out : List ℕ) where
  pub seal-small : value_of (seal_from start mode rounds key nonce header input out).0 < 2 ^ 32
  unfolding seal_from
  seal-small =
      checked-lt (2 ^ 32) _ out _ (seal-place mode rounds (length key) (length nonce) (length header) (length input) (length out) (2 ^ 32) (lit< tt))
      (λ e. omega (arith, (seal-clear mode rounds (length key) (length nonce) (length header) (length input) (length out) e).1.0))

  pub open-small : value_of (open_from start mode rounds key nonce header input out).0 < 2 ^ 32
  unfolding open_from
  open-small =
      checked-lt (2 ^ 32) _ out _ (open-place mode rounds (length key) (length nonce) (length header) (length input) (length out) (2 ^ 32) (lit< tt))
      (λ e. verdict-lt (2 ^ 32) (length input - 32) _ (omega (arith, (open-clear mode rounds (length key) (length nonce) (length header) (length input) (length out) e).1.0.1)) (lit< tt))
