-- What the reason is, by the first setting that opens the parcel. Assumes nothing.
use mathlib.Core.Path.{◌≡◌, refl, sym, ap, ◌∙◌}
use mathlib.Core.Bool.{Bool, true, false, cond}
use Prim.Native.Nat.{ℕ, ◌≤◌, ◌<◌}
use borrow.Author.Tests.{lt-ltb, le-ltb, ltb-true, ltb-false}
use Rattle.words.proofs.Truth.{pick}
use lib.Dec.{ltb}
use Rattle.std.specs.Prelude.{Some, None}
use Rattle.diagnosing.specs.declared.Setting.{Setting}
use Rattle.diagnosing.specs.declared.Differs.{Differs}
use Rattle.diagnosing.specs.declared.Diagnosis.{Diagnosis}
use Rattle.diagnosing.specs.declared.Diagnosis.TheVariants.{AsAsked, Other, NoneOfSixteen}
use Rattle.diagnosing.specs.Diagnosing.{sixteen, nth, differs, first_of, reason_at, reason_for}
use Rattle.diagnosing.specs.Trying.{within}

-- ---- the number of a setting, where it is one of the sixteen

pub within-here : (n : ℕ) {k : ℕ} → k ≡ n → n < 16 → Some n ≡ within k
unfolding within
within-here n e h = rw (e, lt-ltb n 16 h)

pub within-none : (k : ℕ) → 16 ≤ k → None ≡ within k
unfolding within
within-none k h = rw (le-ltb k 16 h)

pub within-some : (k n : ℕ) → Some n ≡ within k → (n ≡ k) × (n < 16)
unfolding within
within-some k n e = by_test _ refl e
  where
    by_test : (t : Bool) → ltb k 16 ≡ t → Some n ≡ cond t (Some k) None → (n ≡ k) × (n < 16)
    by_test true h e = let q : n ≡ k = cc in (q, rw q (ltb-true k 16 h))
    by_test false h e = absurd cc

pub within-past : (k : ℕ) → None ≡ within k → 16 ≤ k
unfolding within
within-past k e = by_test _ refl e
  where
    by_test : (t : Bool) → ltb k 16 ≡ t → None ≡ cond t (Some k) None → 16 ≤ k
    by_test true h e = absurd cc
    by_test false h e = ltb-false k 16 h

-- ---- the reason

module _ (test : Setting → Bool) (asked : Setting) where
  pub reason-asked : test asked ≡ true → AsAsked ≡ reason_for test asked
  unfolding reason_for
  reason-asked e = ap (λ (t : Bool). cond t AsAsked (reason_at asked (first_of test sixteen))) (sym e)

  -- what holds of both that it may be
  pub reason-either : (P : Diagnosis → Type 0) → P AsAsked → P (reason_at asked (first_of test sixteen)) → P (reason_for test asked)
  unfolding reason_for
  reason-either P p q = pick P (test asked) AsAsked (reason_at asked (first_of test sixteen)) p q

  module _ {n : ℕ} (shut : test asked ≡ false) (found : n ≡ first_of test sixteen) where
    pub reason-other : {s : Setting} {d : Differs} → n < 16 → s ≡ nth sixteen n → d ≡ differs asked s → Other n d ≡ reason_for test asked
    unfolding reason_for reason_at
    reason-other h es ed = rw (shut, ← found, lt-ltb n 16 h) (ap (Other n) (ed ∙ ap (differs asked) es))

    pub reason-none : 16 ≤ n → NoneOfSixteen ≡ reason_for test asked
    unfolding reason_for reason_at
    reason-none h = rw (shut, ← found, le-ltb n 16 h)
