-- What convert answers where the parcel opens under the old start, under the new one alone, and under neither, and that it is small. Assumes nothing.
use mathlib.Core.Path.{◌≡◌, ap}
use mathlib.Core.Bool.{true, false}
use mathlib.Core.List.{List, ◌++◌}
use Prim.Native.Nat.{ℕ, ◌^◌, ◌<◌}
use native.Mathlib.Omega.{arith}
use lib.Dec.{lit<}
use lib.ListN.{length, drop}
use Rattle.words.proofs.Truth.{pick}
use Rattle.std.specs.Prelude.{Ok, Err}
use Rattle.answers.specs.Answers.{Answer, value_of}
use Rattle.answers.specs.Refusals.{refusal}
use Rattle.answers.specs.declared.Ground.TheVariants.{TagDiffers, DoneAlready}
use Rattle.answers.proofs.Values.{checked-lt}
use Rattle.blockplan.specs.Parcel.{Mode, parcel_of, message_of, genuine}
use Rattle.checks.proofs.Clears.{convert-clear, convert-place}
use Rattle.converting.specs.Converting.{converted, convert_call}

-- ---- the three ways

module _ (old new : Mode) (header parcel out : List ℕ) where
  pub converted-where : (written : List ℕ) → genuine old header parcel ≡ true → written ≡ parcel_of new header (message_of old parcel) ++ drop (length parcel) out
      → (Ok (length parcel), written) ≡ converted old new header parcel out
  unfolding converted
  converted-where written e w = rw e (ap (λ (l : List ℕ). (Ok (length parcel), l)) w)

  pub done-where : genuine old header parcel ≡ false → genuine new header parcel ≡ true → (Err (refusal DoneAlready 0), out) ≡ converted old new header parcel out
  unfolding converted
  done-where e q = rw (e, q)

  pub neither-where : genuine old header parcel ≡ false → genuine new header parcel ≡ false → (Err (refusal TagDiffers 0), out) ≡ converted old new header parcel out
  unfolding converted
  neither-where e q = rw (e, q)

  converted-lt : (n : ℕ) → length parcel < n → 0 < n → value_of (converted old new header parcel out).0 < n
  unfolding converted
  converted-lt n h z =
      pick (λ (r : Answer × List ℕ). value_of r.0 < n) (genuine old header parcel) _ _ h
      (pick (λ (r : Answer × List ℕ). value_of r.0 < n) (genuine new header parcel) (Err (refusal DoneAlready 0), out) (Err (refusal TagDiffers 0), out) z z)

-- ---- the answer is small

pub convert-small : (mode rounds : ℕ) (key nonce header parcel out : List ℕ) → value_of (convert_call mode rounds key nonce header parcel out).0 < 2 ^ 32
unfolding convert_call
convert-small mode rounds key nonce header parcel out =
    checked-lt (2 ^ 32) _ out _ (convert-place mode rounds (length key) (length nonce) (length header) (length parcel) (length out) (2 ^ 32) (lit< tt))
    (λ e. let h : length parcel < 2 ^ 32 = omega (arith, (convert-clear mode rounds (length key) (length nonce) (length header) (length parcel) (length out) e).1.0.1) in
    converted-lt _ _ header parcel out (2 ^ 32) h (lit< tt))
