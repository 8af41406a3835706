-- The reason that diagnose gives is true, over the calls that open. Assumes nothing.
use mathlib.Core.Path.{◌≡◌, refl, sym, ap, ◌∙◌, subst}
use mathlib.Core.Bool.{Bool, true, false, not, cond, ◌&&◌, ◌||◌, false≢true, true≢false}
use mathlib.Core.Logic.{◌⊎◌, inl, inr, ◌≢◌}
use mathlib.Core.List.{List, [], ◌∷◌}
use Prim.Native.Nat.{ℕ, ◌+◌, ◌-◌, ◌*◌, ◌<◌}
use native.Mathlib.Omega.{arith}
use native.Mathlib.Decide.{ℕ_discrete}
use lib.Dec.{eqb, ltb, lit<}
use lib.ListN.{length}
use borrow.Author.Tests.{eqb-true, eq-eqb, ne_eqb, ltb-true, ltb-false, lt-ltb}
use Rattle.words.proofs.Truth.{both, all_below, carried, equal-below}
use Rattle.std.specs.Prelude.{Result, Ok, Err}
use Rattle.answers.specs.Refusals.{refusal}
use Rattle.answers.specs.Answers.{room, checked, judged, Check, clear}
use Rattle.answers.specs.declared.Refusal.{Refusal}
use Rattle.answers.specs.declared.Ground.{Ground}
use Rattle.answers.proofs.Values.{after}
use Rattle.mem.specs.Mem.{start_of, old_start_of}
use Rattle.mem.proofs.Laws.{start-block, old-start-block}
use Rattle.blockplan.specs.Parcel.{message_of}
use Rattle.checks.specs.Checks.{is_mode, is_one_of, round_counts, is_rounds, open_inputs, open_checks}
use Rattle.checks.proofs.Clears.{open_after, inputs-settings, other-inputs}
use Rattle.sealing.specs.Sealing.{open_from, open_call, open_old_call}
use Rattle.diagnosing.specs.declared.Setting.{Setting}
use Rattle.diagnosing.specs.declared.Differs.{Differs}
use Rattle.diagnosing.specs.declared.Diagnosis.{Diagnosis}
use Rattle.diagnosing.specs.declared.Diagnosis.TheVariants.{AsAsked, Other, NoneOfSixteen}
use Rattle.diagnosing.specs.Diagnosing.{setting, with_counts, eight, sixteen, nth, unlike, differs, first_of, reason_at, reason_for, start_under, opens_under, diagnose_call, bit}
use Rattle.diagnosing.proofs.Found.{first-opens, first-earlier, first-is, first-none}
use Rattle.diagnosing.proofs.Trying.{sixteen-long}
use Rattle.demands.specs.Demand2.{Openable}
use Rattle.demands.specs.TrueReason.{opening_under, OpensUnder, ShutUnder, FirstOther, SaysWhatDiffers, Says, Reasons, TrueReason}
use Rattle.demands.proofs.Demand2.{mode_under, opens}
use Rattle.demands.proofs.Conversion.{opened-is, unopened-is}

-- ---- the sixteen settings

abbrev Listed : Bool → ℕ → ℕ → Type 0
Listed old mode rounds = (n : ℕ) × (n < 16) × (nth sixteen n ≡ setting old mode rounds)

abbrev Each : (ℕ → Type 0) → List ℕ → Type 0
Each P [] = Unit
Each P (k ∷ ks) = P k × Each P ks

one_of : (P : ℕ → Type 0) (ks : List ℕ) → Each P ks → (n : ℕ) → is_one_of ks n ≡ true → P n
unfolding is_one_of
one_of P [] h n e = absurd (false≢true e)
one_of P (k ∷ ks) h n e = elim (ℕ_discrete n k) [
  | yes q ↦ subst P (sym q) h.0
  | no q ↦ one_of P ks h.1 n (rw (ne_eqb n k q) at e)
]

or_nil : (a b : Bool) → (a || b) ≡ true → (a || (b || false)) ≡ true
or_nil true b e = refl
or_nil false true e = refl
or_nil false false e = e

one-of-modes : (mode : ℕ) → is_mode mode ≡ true → is_one_of (1 ∷ 2 ∷ []) mode ≡ true
unfolding is_mode is_one_of
one-of-modes mode e = or_nil (eqb mode 1) (eqb mode 2) e

opp-listed : (old : Bool) → Each (λ (r : ℕ). Listed old 1 r) round_counts
unfolding round_counts sixteen eight with_counts nth
opp-listed true = ((8, lit< tt, refl), ((9, lit< tt, refl), ((10, lit< tt, refl), ((11, lit< tt, refl), tt))))
opp-listed false = ((0, lit< tt, refl), ((1, lit< tt, refl), ((2, lit< tt, refl), ((3, lit< tt, refl), tt))))

mro-listed : (old : Bool) → Each (λ (r : ℕ). Listed old 2 r) round_counts
unfolding round_counts sixteen eight with_counts nth
mro-listed true = ((12, lit< tt, refl), ((13, lit< tt, refl), ((14, lit< tt, refl), ((15, lit< tt, refl), tt))))
mro-listed false = ((4, lit< tt, refl), ((5, lit< tt, refl), ((6, lit< tt, refl), ((7, lit< tt, refl), tt))))

all_listed : (old : Bool) (mode rounds : ℕ) → is_mode mode ≡ true → is_rounds rounds ≡ true → Listed old mode rounds
unfolding is_rounds round_counts
all_listed old mode rounds hm hr =
    one_of (λ (m : ℕ). Listed old m rounds) (1 ∷ 2 ∷ [])
    (one_of (λ (r : ℕ). Listed old 1 r) round_counts (opp-listed old) rounds hr, (one_of (λ (r : ℕ). Listed old 2 r) round_counts (mro-listed old) rounds hr, tt))
    mode (one-of-modes mode hm)

listed-pass : (n : ℕ) → n < 16 → (is_mode (nth sixteen n).mode ≡ true) × (is_rounds (nth sixteen n).rounds ≡ true)
unfolding all_below is_mode is_rounds is_one_of round_counts sixteen eight with_counts setting nth
listed-pass n h = both _ _ (carried (λ n. is_mode (nth sixteen n).mode && is_rounds (nth sixteen n).rounds) 16 refl n h)

-- a setting's number, out of its fields
abbrev count_place : ℕ → ℕ
count_place rounds = cond (eqb rounds 4) 0 (cond (eqb rounds 6) 1 (cond (eqb rounds 8) 2 3))

abbrev place_of : Setting → ℕ
place_of s = 8 * bit s.old + 4 * (s.mode - 1) + count_place s.rounds

place-nth : (n : ℕ) → n < 16 → place_of (nth sixteen n) ≡ n
unfolding all_below round_counts sixteen eight with_counts setting nth
place-nth n h = equal-below (λ k. place_of (nth sixteen k)) (λ k. k) 16 refl n h

listed-once : (m n : ℕ) → m < 16 → n < 16 → nth sixteen m ≡ nth sixteen n → m ≡ n
listed-once m n h k e = sym (place-nth m h) ∙ ap place_of e ∙ place-nth n k

-- ---- what opens is genuine

module _ (key nonce header parcel : List ℕ) where
  opens_at : (old : Bool) (mode rounds : ℕ) → Openable mode rounds key nonce header parcel → opens_under key nonce header parcel (setting old mode rounds) ≡ true
      → OpensUnder key nonce header parcel (setting old mode rounds)
  unfolding opens_under start_under setting open_call open_old_call mode_under
  opens_at true mode rounds 𝓟 e = (message_of (mode_under old_start_of old-start-block mode rounds key nonce header) parcel, opens old_start_of old-start-block mode rounds key nonce header parcel 𝓟 e)
  opens_at false mode rounds 𝓟 e = (message_of (mode_under start_of start-block mode rounds key nonce header) parcel, opens start_of start-block mode rounds key nonce header parcel 𝓟 e)

  genuine-at : (old : Bool) (mode rounds : ℕ) → Openable mode rounds key nonce header parcel
      → OpensUnder key nonce header parcel (setting old mode rounds) → opens_under key nonce header parcel (setting old mode rounds) ≡ true
  unfolding opens_under start_under setting open_call open_old_call mode_under
  genuine-at true mode rounds 𝓟 o = (opened-is old_start_of old-start-block mode rounds key nonce header parcel 𝓟 o.0 o.1).0
  genuine-at false mode rounds 𝓟 o = (opened-is start_of start-block mode rounds key nonce header parcel 𝓟 o.0 o.1).0

  shut-at : (old : Bool) (mode rounds : ℕ) → Openable mode rounds key nonce header parcel → opens_under key nonce header parcel (setting old mode rounds) ≡ false
      → ShutUnder key nonce header parcel (setting old mode rounds)
  shut-at old mode rounds 𝓟 e o = true≢false (sym (genuine-at old mode rounds 𝓟 o) ∙ e)

  not-genuine-at : (old : Bool) (mode rounds : ℕ) → Openable mode rounds key nonce header parcel
      → ShutUnder key nonce header parcel (setting old mode rounds) → opens_under key nonce header parcel (setting old mode rounds) ≡ false
  unfolding opens_under start_under setting open_call open_old_call mode_under
  not-genuine-at true mode rounds 𝓟 shut = unopened-is old_start_of old-start-block mode rounds key nonce header parcel 𝓟 shut
  not-genuine-at false mode rounds 𝓟 shut = unopened-is start_of start-block mode rounds key nonce header parcel 𝓟 shut

  -- the other settings are openable where the one asked is
  module _ (mode rounds : ℕ) (𝓟 : Openable mode rounds key nonce header parcel) (n : ℕ) (h : n < 16) where
    openable : Openable (nth sixteen n).mode (nth sixteen n).rounds key nonce header parcel
    openable =
        let p = listed-pass n h in
        record {
          clear = other-inputs mode rounds (length key) (length nonce) (length header) (length parcel) (nth sixteen n).mode (nth sixteen n).rounds p.0 p.1 𝓟.clear;
          key-bytes = 𝓟.key-bytes;
          nonce-bytes = 𝓟.nonce-bytes;
          bytes = 𝓟.bytes;
        }

    opens-nth : opens_under key nonce header parcel (nth sixteen n) ≡ true → OpensUnder key nonce header parcel (nth sixteen n)
    unfolding setting
    opens-nth e = opens_at (nth sixteen n).old (nth sixteen n).mode (nth sixteen n).rounds openable e

    genuine-nth : OpensUnder key nonce header parcel (nth sixteen n) → opens_under key nonce header parcel (nth sixteen n) ≡ true
    unfolding setting
    genuine-nth o = genuine-at (nth sixteen n).old (nth sixteen n).mode (nth sixteen n).rounds openable o

    shut-nth : opens_under key nonce header parcel (nth sixteen n) ≡ false → ShutUnder key nonce header parcel (nth sixteen n)
    unfolding setting
    shut-nth e = shut-at (nth sixteen n).old (nth sixteen n).mode (nth sixteen n).rounds openable e

    not-genuine-nth : ShutUnder key nonce header parcel (nth sixteen n) → opens_under key nonce header parcel (nth sixteen n) ≡ false
    unfolding setting
    not-genuine-nth shut = not-genuine-at (nth sixteen n).old (nth sixteen n).mode (nth sixteen n).rounds openable shut

-- ---- what differs

start-differs : (a b : Bool) → unlike a b ≡ true → a ≢ b
unfolding unlike
start-differs true true e q = false≢true e
start-differs true false e q = true≢false q
start-differs false true e q = false≢true q
start-differs false false e q = false≢true e

start-agrees : (a b : Bool) → unlike a b ≡ false → a ≡ b
unfolding unlike
start-agrees true true e = refl
start-agrees true false e = absurd (true≢false e)
start-agrees false true e = absurd (true≢false e)
start-agrees false false e = refl

number-differs : (m n : ℕ) → not (eqb m n) ≡ true → m ≢ n
number-differs m n e q = false≢true (sym (ap not (eq-eqb m n q)) ∙ e)

number-agrees : (m n : ℕ) → not (eqb m n) ≡ false → m ≡ n
number-agrees m n e = eqb-true m n (turned (eqb m n) e)
  where
    turned : (t : Bool) → not t ≡ false → t ≡ true
    turned true e = refl
    turned false e = absurd (true≢false e)

says-what-differs : (asked other : Setting) → SaysWhatDiffers asked other (differs asked other)
unfolding differs
says-what-differs asked other = record {
  start-differs = start-differs asked.old other.old;
  start-agrees = start-agrees asked.old other.old;
  mode-differs = number-differs asked.mode other.mode;
  mode-agrees = number-agrees asked.mode other.mode;
  rounds-differ = number-differs asked.rounds other.rounds;
  rounds-agree = number-agrees asked.rounds other.rounds;
}

-- ---- which reason it is

abbrev kind_of : Diagnosis → ℕ
kind_of AsAsked = 0
kind_of (Other n d) = 1
kind_of NoneOfSixteen = 2

abbrev number_of : Diagnosis → ℕ
number_of AsAsked = 0
number_of (Other n d) = n
number_of NoneOfSixteen = 0

-- the two answer alike
abbrev Answered : Diagnosis → Diagnosis → Type 0
Answered d e = ◌≡◌ {A = Result Diagnosis Refusal} (Ok d) (Ok e)

-- the reason that was answered
abbrev said : Result Diagnosis Refusal → Diagnosis
said (Ok reason) = reason
said (Err found) = AsAsked

abbrev differs_of : Differs → Diagnosis → Differs
differs_of none AsAsked = none
differs_of none (Other n d) = d
differs_of none NoneOfSixteen = none

-- by the two tests that decide it
abbrev decided : ℕ → Differs → Bool → Bool → Diagnosis
decided n d t u = cond t AsAsked (cond u (Other n d) NoneOfSixteen)

module _ (n : ℕ) (d : Differs) where
  is-as-asked : (t u : Bool) → decided n d t u ≡ AsAsked → t ≡ true
  is-as-asked true u e = refl
  is-as-asked false true e = let k = ap kind_of e in absurd (omega arith)
  is-as-asked false false e = let k = ap kind_of e in absurd (omega arith)

  is-other : (t u : Bool) (m : ℕ) (c : Differs) → decided n d t u ≡ Other m c → (t ≡ false) × ((u ≡ true) × ((n ≡ m) × (d ≡ c)))
  is-other true u m c e = let k = ap kind_of e in absurd (omega arith)
  is-other false true m c e = (refl, (refl, (ap number_of e, ap (differs_of d) e)))
  is-other false false m c e = let k = ap kind_of e in absurd (omega arith)

  is_none : (t u : Bool) → decided n d t u ≡ NoneOfSixteen → (t ≡ false) × (u ≡ false)
  is_none true u e = let k = ap kind_of e in absurd (omega arith)
  is_none false true e = let k = ap kind_of e in absurd (omega arith)
  is_none false false e = (refl, refl)

  no_other : (t u : Bool) → Answered (decided n d t u) AsAsked ⊎ ((m : ℕ) × (c : Differs) × Answered (decided n d t u) (Other m c)) ⊎ Answered (decided n d t u) NoneOfSixteen
  no_other true u = inl refl
  no_other false true = inr (inl (n, d, refl))
  no_other false false = inr (inr refl)

-- ---- the call

module _ (old : Bool) (mode rounds : ℕ) (key nonce header parcel : List ℕ) where
  abbrev asked : Setting
  asked = setting old mode rounds

  abbrev test : Setting → Bool
  test = opens_under key nonce header parcel

  abbrev first : ℕ
  first = first_of test sixteen

  abbrev differ : Differs
  differ = differs asked (nth sixteen first)

  refused : (why : Ground) (place : ℕ) → open_inputs mode rounds (length key) (length nonce) (length header) (length parcel) clear ≡ Err (refusal why place)
      → diagnose_call old mode rounds key nonce header parcel ≡ Err (refusal why place)
  unfolding diagnose_call judged
  refused why place e = rw e

  -- what is refused is what the checks found
  found-is : (c : Check) (reason : Diagnosis) (why : Refusal) → judged c (Ok reason) ≡ Err why → c ≡ Err why
  unfolding judged
  found-is (Ok none) reason why e = absurd cc
  found-is (Err found) reason why e = let q : found ≡ why = cc in ap Err q

  refused-by : (start : ℕ → List ℕ → List ℕ → List ℕ) (why : Ground) (place : ℕ) → diagnose_call old mode rounds key nonce header parcel ≡ Err (refusal why place)
      → (out : List ℕ) → open_from start mode rounds key nonce header parcel out ≡ (Err (refusal why place), out)
  unfolding diagnose_call open_from open_checks checked after
  refused-by start why place e out =
      let c = found-is _ _ (refusal why place) e in
      rw (open_after mode rounds (length key) (length nonce) (length header) (length parcel) (room (length parcel - 32) (length out) clear), c)

  module _ (𝓟 : Openable mode rounds key nonce header parcel) where
    answers : diagnose_call old mode rounds key nonce header parcel ≡ Ok (decided first differ (test asked) (ltb first 16))
    unfolding diagnose_call judged reason_for reason_at
    answers = rw 𝓟.clear

    as-asked : Says old mode rounds key nonce header parcel AsAsked → OpensUnder key nonce header parcel asked
    as-asked e = opens_at key nonce header parcel old mode rounds 𝓟 (is-as-asked first differ (test asked) (ltb first 16) (ap said (sym answers ∙ e)))

    as-asked-there : OpensUnder key nonce header parcel asked → Says old mode rounds key nonce header parcel AsAsked
    as-asked-there o = answers ∙ rw (genuine-at key nonce header parcel old mode rounds 𝓟 o)

    first-other : test asked ≡ false → ltb first 16 ≡ true → FirstOther key nonce header parcel asked first
    first-other shut found =
        let low : first < 16 = ltb-true first 16 found in
        record {
          one-of-sixteen = low;
          opens = opens-nth key nonce header parcel mode rounds 𝓟 first low (first-opens test sixteen (subst (λ (k : ℕ). first < k) (sym sixteen-long) low));
          asked-shut = shut-at key nonce header parcel old mode rounds 𝓟 shut;
          earlier-shut = λ m h. shut-nth key nonce header parcel mode rounds 𝓟 m (omega arith) (first-earlier test sixteen m h);
        }

    other : (n : ℕ) (d : Differs) → Says old mode rounds key nonce header parcel (Other n d)
        → FirstOther key nonce header parcel asked n × SaysWhatDiffers asked (nth sixteen n) d
    other n d e =
        let w = is-other first differ (test asked) (ltb first 16) n d (ap said (sym answers ∙ e)) in
        let here = w.1.1.0 in (
          subst (λ (k : ℕ). FirstOther key nonce header parcel asked k) here (first-other w.0 w.1.0),
          subst (λ (c : Differs). SaysWhatDiffers asked (nth sixteen n) c) w.1.1.1
              (subst (λ (k : ℕ). SaysWhatDiffers asked (nth sixteen k) differ) here (says-what-differs asked (nth sixteen first))),
        )

    other-there : (n : ℕ) → FirstOther key nonce header parcel asked n → (d : Differs) × Says old mode rounds key nonce header parcel (Other n d)
    other-there n o =
        let low = o.one-of-sixteen in
        let here : first ≡ n = first-is test sixteen n (subst (λ (k : ℕ). n < k) (sym sixteen-long) low)
        (λ m h. not-genuine-nth key nonce header parcel mode rounds 𝓟 m (omega arith) (o.earlier-shut m h)) (genuine-nth key nonce header parcel mode rounds 𝓟 n low o.opens) in
        let found : ltb first 16 ≡ true = ap (λ (k : ℕ). ltb k 16) here ∙ lt-ltb n 16 low in
        (differ, answers ∙ rw (not-genuine-at key nonce header parcel old mode rounds 𝓟 o.asked-shut, found) (ap (λ (k : ℕ). Ok (Other k differ)) here))

    none : Says old mode rounds key nonce header parcel NoneOfSixteen → (n : ℕ) → n < 16 → ShutUnder key nonce header parcel (nth sixteen n)
    none e n h =
        let w = is_none first differ (test asked) (ltb first 16) (ap said (sym answers ∙ e)) in
        let past = ltb-false first 16 w.1 in
        shut-nth key nonce header parcel mode rounds 𝓟 n h (first-earlier test sixteen n (omega arith))

    none-there : ((n : ℕ) → n < 16 → ShutUnder key nonce header parcel (nth sixteen n)) → Says old mode rounds key nonce header parcel NoneOfSixteen
    none-there shut = answers ∙ rw (asked-false, all-false)
      where
        -- the setting asked is one of the sixteen
        asked-false : test asked ≡ false
        asked-false =
            let p = inputs-settings mode rounds (length key) (length nonce) (length header) (length parcel) 𝓟.clear in
            let l = all_listed old mode rounds p.0 p.1 in
            subst (λ (s : Setting). test s ≡ false) l.2 (not-genuine-nth key nonce header parcel mode rounds 𝓟 l.0 l.1 (shut l.0 l.1))

        all-false : first ≡ 16
        all-false =
            first-none test sixteen (λ m h. let q : m < 16 = subst (λ (k : ℕ). m < k) sixteen-long h in not-genuine-nth key nonce header parcel mode rounds 𝓟 m q (shut m q))
            ∙ sixteen-long

    reasons : Reasons old mode rounds key nonce header parcel
    reasons = record {
      as-asked = as-asked;
      as-asked-there = as-asked-there;
      other = other;
      other-there = other-there;
      none = none;
      none-there = none-there;
      cases = rw answers (no_other first differ (test asked) (ltb first 16));
    }

refused-by-open : (old : Bool) (mode rounds : ℕ) (key nonce header parcel : List ℕ) (why : Ground) (place : ℕ)
    → diagnose_call old mode rounds key nonce header parcel ≡ Err (refusal why place)
    → (out : List ℕ) → opening_under old mode rounds key nonce header parcel out ≡ (Err (refusal why place), out)
unfolding open_call open_old_call
refused-by-open true mode rounds key nonce header parcel why place e out = refused-by true mode rounds key nonce header parcel old_start_of why place e out
refused-by-open false mode rounds key nonce header parcel why place e out = refused-by false mode rounds key nonce header parcel start_of why place e out

pub true-reason : TrueReason
true-reason = record {
  all_listed = all_listed;
  listed-pass = listed-pass;
  listed-once = listed-once;
  refused = refused;
  refused-by-open = refused-by-open;
  reasons = reasons;
}
