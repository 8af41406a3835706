-- What is tried over a start is what opens under the setting; the settings by their number; the starts that OPP leaves for MRO. Assumes nothing.
use mathlib.Core.Path.{◌≡◌, refl, sym, ap, ap₂, ◌∙◌}
use mathlib.Core.Bool.{Bool, true, false, not, beq, cond, ◌&&◌, ◌||◌, false≢true}
use mathlib.Core.Logic.{◌≢◌}
use mathlib.Core.List.{List, []}
use Prim.Native.Nat.{ℕ, ◌+◌, ◌-◌, ◌/◌, ◌%◌, ◌≤◌, ◌<◌}
use native.Mathlib.Omega.{arith}
use native.Mathlib.Decide.{ℕ_discrete}
use lib.Dec.{eqb, leb}
use lib.ListN.{length, get_or, set, length-set}
use lib.Seq.{get_or-set_same, get_or-set_other}
use borrow.Author.Tests.{eqb-true, ne_eqb, leb-true}
use Rattle.words.proofs.Truth.{both, all_below, carried, equal-below}
use Rattle.mem.specs.Mem.{start_for}
use Rattle.blockplan.specs.Parcel.{genuine}
use Rattle.checks.specs.Checks.{round_counts}
use Rattle.modes.specs.Modes.{mode_of}
use Rattle.diagnosing.specs.declared.Setting.{Setting}
use Rattle.diagnosing.specs.Diagnosing.{setting, with_counts, eight, sixteen, nth, unlike, opens_under, start_under}
use Rattle.diagnosing.specs.Trying.{is_same, tries}

-- ---- the same setting

pub unlike_is : (a b : Bool) → not (beq a b) ≡ unlike a b
unfolding unlike
unlike_is true true = refl
unlike_is true false = refl
unlike_is false true = refl
unlike_is false false = refl

pub beq-is : (a b : Bool) → beq a b ≡ not (unlike a b)
unfolding unlike
beq-is true true = refl
beq-is true false = refl
beq-is false true = refl
beq-is false false = refl

pub alike : (a b : Bool) → not (unlike a b) ≡ true → a ≡ b
unfolding unlike
alike true true e = refl
alike true false e = absurd (false≢true e)
alike false true e = absurd (false≢true e)
alike false false e = refl

same-is : (a s : Setting) → is_same a s ≡ true → a ≡ s
unfolding is_same
same-is a s e =
    let p = both _ _ e in
    let q = both _ _ p.1 in
    let o = alike a.old s.old p.0 in
    let m = eqb-true a.mode s.mode q.0 in
    let r = eqb-true a.rounds s.rounds q.1 in
    λ i. record { old = o i; mode = m i; rounds = r i }

-- equality of settings, as it is derived
pub eq-same : (a s : Setting) → (beq a.old s.old && (eqb a.mode s.mode && eqb a.rounds s.rounds)) ≡ is_same a s
unfolding is_same
eq-same a s = ap (λ (t : Bool). t && (eqb a.mode s.mode && eqb a.rounds s.rounds)) (beq-is a.old s.old)

-- the start goes by old or new and by the count alone
pub start-same : (key nonce : List ℕ) (a s : Setting) → a.old ≡ s.old → a.rounds ≡ s.rounds → start_under key nonce a ≡ start_under key nonce s
unfolding start_under
start-same key nonce a s o r = ap₂ (λ (x : Bool) (y : ℕ). start_for x y key nonce) o r

-- ---- one setting tried

-- what is judged over the start of a setting is whether the parcel opens under it
pub judged-under : (key nonce header parcel : List ℕ) (s : Setting) {start : List ℕ} {right verdict : Bool} → start ≡ start_under key nonce s
    → right ≡ genuine (mode_of s.mode s.rounds start) header parcel → right ≡ verdict → opens_under key nonce header parcel s ≡ verdict
unfolding opens_under start_under
judged-under key nonce header parcel s b e q = ap (λ (x : List ℕ). genuine (mode_of s.mode s.rounds x) header parcel) (sym b) ∙ sym e ∙ q

module _ (key nonce header parcel : List ℕ) (asked : Setting) (shut : opens_under key nonce header parcel asked ≡ false) where
  decided : (s : Setting) (start : List ℕ) → start ≡ start_under key nonce s → (t : Bool) → is_same asked s ≡ t
      → cond t false (genuine (mode_of s.mode s.rounds start) header parcel) ≡ opens_under key nonce header parcel s
  decided s start b true e = sym shut ∙ ap (opens_under key nonce header parcel) (same-is asked s e)
  decided s start b false e = sym (judged-under key nonce header parcel s b refl refl)

  pub tried-under : (s t : Setting) {start : List ℕ} {right verdict : Bool} → s ≡ t → start ≡ start_under key nonce s
      → right ≡ tries asked s start header parcel → right ≡ verdict → opens_under key nonce header parcel t ≡ verdict
  unfolding tries
  tried-under s t {start} same b e q = ap (opens_under key nonce header parcel) (sym same) ∙ sym (decided s start b (is_same asked s) refl) ∙ sym e ∙ q

-- ---- the settings by their number

pub sixteen-long : length sixteen ≡ 16
unfolding sixteen eight with_counts round_counts
sixteen-long = refl

mode-is : (n : ℕ) → n < 16 → 1 + n / 4 % 2 ≡ (nth sixteen n).mode
unfolding sixteen eight with_counts round_counts setting nth all_below
mode-is n h = equal-below (λ k. 1 + k / 4 % 2) (λ k. (nth sixteen k).mode) 16 refl n h

rounds-are : (n : ℕ) → n < 16 → get_or round_counts (n % 4) 0 ≡ (nth sixteen n).rounds
unfolding sixteen eight with_counts round_counts setting nth all_below
rounds-are n h = equal-below (λ k. get_or round_counts (k % 4) 0) (λ k. (nth sixteen k).rounds) 16 refl n h

old-is : (n : ℕ) → n < 16 → leb 8 n ≡ (nth sixteen n).old
unfolding sixteen eight with_counts round_counts setting nth all_below unlike
old-is n h = alike (leb 8 n) (nth sixteen n).old (carried (λ k. not (unlike (leb 8 k) (nth sixteen k).old)) 16 refl n h)

pub nth_is : (n rounds : ℕ) → n < 16 → rounds ≡ get_or round_counts (n % 4) 0
    → ◌≡◌ {A = Setting} (record { old = leb 8 n; mode = 1 + n / 4 % 2; rounds = rounds }) (nth sixteen n)
nth_is n rounds h e =
    let o = old-is n h in
    let m = mode-is n h in
    let r = e ∙ rounds-are n h in
    λ i. record { old = o i; mode = m i; rounds = r i }

-- ---- the starts that are left

-- the last four settings before setting n have left their starts, each at the place of its count
pub record Left (key nonce : List ℕ) (starts : List (List ℕ)) (n : ℕ) : Type 0 where
  pub four : length starts ≡ 4
  pub last : (m : ℕ) → m < n → n ≤ m + 4 → get_or starts (m % 4) [] ≡ start_under key nonce (nth sixteen m)

module _ (key nonce : List ℕ) where
  pub left-none : (starts : List (List ℕ)) → length starts ≡ 4 → Left key nonce starts 0
  left-none starts h = record { four = h; last = λ m p q. absurd (omega arith) }

  -- OPP comes four settings before MRO, with the same start and count
  opp-before : (n : ℕ) → n < 16 → (nth sixteen n).mode ≢ 1 → (4 ≤ n) × (start_under key nonce (nth sixteen (n - 4)) ≡ start_under key nonce (nth sixteen n))
  unfolding sixteen eight with_counts round_counts setting nth all_below unlike
  opp-before n h o =
      let p = both _ _ (rw (ne_eqb (nth sixteen n).mode 1 o) at (carried (λ k. eqb (nth sixteen k).mode 1
      || (leb 4 k && (not (unlike (nth sixteen (k - 4)).old (nth sixteen k).old) && eqb (nth sixteen (k - 4)).rounds (nth sixteen k).rounds))) 16 refl n h)) in
      let q = both _ _ p.1 in
      (leb-true 4 n p.0, start-same key nonce (nth sixteen (n - 4)) (nth sixteen n) (alike _ _ q.0) (eqb-true _ _ q.1))

  -- what stands at the place of an MRO setting is its start
  pub left-found : (starts : List (List ℕ)) (n : ℕ) → Left key nonce starts n → n < 16 → (nth sixteen n).mode ≢ 1 → get_or starts (n % 4) [] ≡ start_under key nonce (nth sixteen n)
  left-found starts n l h o =
      let b = opp-before n h o in
      let at : (n - 4) % 4 ≡ n % 4 = omega (arith, b.0) in
      ap (λ (k : ℕ). get_or starts k []) (sym at) ∙ l.last (n - 4) (omega (arith, b.0)) (omega (arith, b.0)) ∙ b.1

  pub left-more : (starts : List (List ℕ)) (n : ℕ) {start : List ℕ} → Left key nonce starts n → start ≡ start_under key nonce (nth sixteen n)
      → Left key nonce (set starts (n % 4) start) (n + 1)
  left-more starts n {start} l e = record {
    four = length-set starts (n % 4) start ∙ l.four;
    last = λ m h k. elim (ℕ_discrete m n) [
      | yes q ↦ rw q (get_or-set_same starts (n % 4) start [] (omega (arith, l.four)) ∙ e)
      | no q ↦ get_or-set_other starts (n % 4) (m % 4) start [] (λ p. q (omega arith)) ∙ l.last m (omega arith) (omega arith)
    ];
  }
