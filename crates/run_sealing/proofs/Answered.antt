-- The run in a buffer, and that what sealing and opening from a run answer is small. Assumes nothing.
use mathlib.Core.Path.{◌≡◌, ap, ◌∙◌}
use mathlib.Core.Bool.{Bool, true, false}
use mathlib.Core.List.{List, ◌++◌}
use Prim.Native.Nat.{ℕ, ◌+◌, ◌-◌, ◌^◌, ◌≤◌, ◌<◌}
use native.Mathlib.Omega.{arith}
use lib.Dec.{lit<}
use lib.ListN.{length, take, drop}
use lib.Seq.{take_at}
use Rattle.words.specs.Block.{Block}
use Rattle.std.specs.Prelude.{Ok, Err}
use Rattle.answers.specs.Answers.{Answer, value_of}
use Rattle.answers.specs.Refusals.{refusal}
use Rattle.answers.specs.declared.Ground.TheVariants.{TagDiffers}
use Rattle.answers.proofs.Values.{checked-lt}
use Rattle.masks.specs.Run.{grown, IsRun}
use Rattle.masks.proofs.Run.{length-grown, start-grown, is-grown}
use Rattle.checks.proofs.Clears.{seal-clear, open-clear}
use Rattle.checks.proofs.Runs.{seal-run-clear, seal-run-place, open-run-clear, open-run-place}
use Rattle.sealing.specs.Sealing.{verdict}
use Rattle.sealing.proofs.Answered.{done-where, nine-where, verdict-lt}
use Rattle.run_sealing.specs.RunSealing.{run_in, seal_run_call, open_run_call}

-- ---- the front of a buffer that a run was grown in

module _ (start old words : List ℕ) (n : ℕ) (b : Block start) (h : 21 ≤ n) (e : words ≡ grown start (n - 16) ++ drop (16 + (n - 16)) old) where
  long : length (grown start (n - 16)) ≡ n
  long = length-grown start b.long (n - 16) ∙ omega (arith, h)

  front-is : take n words ≡ grown start (n - 16)
  front-is = ap (take n) e ∙ take_at (grown start (n - 16)) (drop (16 + (n - 16)) old) n long

  pub front-run : IsRun (take n words)
  front-run = rw front-is (is-grown start (n - 16) b.long)

  pub front-start : take 16 (take n words) ≡ start
  front-start = ap (take 16) front-is ∙ start-grown start (n - 16) b.long

  pub front_long : length (take n words) ≡ n
  front_long = ap length front-is ∙ long

  pub in_buffer : words ≡ run_in start n old
  unfolding run_in
  in_buffer = let k : 16 + (n - 16) ≡ n = omega (arith, h) in e ∙ rw k

-- ---- the verdict beside the run

-- what is written beside another output
abbrev pub beside : List ℕ → Answer × List ℕ → Answer × (List ℕ × List ℕ)
beside words r = (r.0, (r.1, words))

module _ (n : ℕ) {right : Bool} {out : List ℕ} (words : List ℕ) {o : Bool × List ℕ} (e : (right, out) ≡ o) where
  pub done-beside : right ≡ true → beside words (Ok n, out) ≡ beside words (verdict n o)
  done-beside q = ap (beside words) (done-where n e q)

  pub nine-beside : right ≡ false → beside words (Err (refusal TagDiffers 0), out) ≡ beside words (verdict n o)
  nine-beside q = ap (beside words) (nine-where n e q)

-- ---- the answer is small

module _ (mode rounds : ℕ) (key nonce header input out words : List ℕ) where
  pub seal-run-small : value_of (seal_run_call mode rounds key nonce header input out words).0 < 2 ^ 32
  unfolding seal_run_call
  seal-run-small =
      checked-lt (2 ^ 32) _ (out, words) _
      (seal-run-place mode rounds (length key) (length nonce) (length header) (length input) (length out) (length words) (2 ^ 32) (lit< tt))
      (λ e. omega (
        arith,
        (seal-clear mode rounds (length key) (length nonce) (length header) (length input) (length out)
            (seal-run-clear mode rounds (length key) (length nonce) (length header) (length input) (length out) (length words) e).0).1.0,
      ))

  pub open-run-small : value_of (open_run_call mode rounds key nonce header input out words).0 < 2 ^ 32
  unfolding open_run_call
  open-run-small =
      checked-lt (2 ^ 32) _ (out, words) _
      (open-run-place mode rounds (length key) (length nonce) (length header) (length input) (length out) (length words) (2 ^ 32) (lit< tt))
      (λ e. verdict-lt (2 ^ 32) (length input - 32) _
      (omega (
        arith,
        (open-clear mode rounds (length key) (length nonce) (length header) (length input) (length out)
            (open-run-clear mode rounds (length key) (length nonce) (length header) (length input) (length out) (length words) e).0).1.0.1,
      )) (lit< tt))
