-- The numbers of the diagnoses: each value is below 256, and no two diagnoses of the call have the same number. Assumes nothing.
use mathlib.Core.Path.{◌≡◌, refl, sym, ap, ◌∙◌}
use mathlib.Core.Bool.{Bool, true, false, cond}
use mathlib.Core.Logic.{◌≢◌}
use mathlib.Core.List.{List}
use Prim.Native.Nat.{ℕ, ◌+◌, ◌-◌, ◌*◌, ◌/◌, ◌%◌, ◌^◌, ◌≤◌, ◌<◌}
use native.Mathlib.Omega.{arith}
use lib.Dec.{eqb, ltb, lit<, lit≤}
use lib.ListN.{length}
use borrow.Author.Tests.{ltb-true, ne_eqb}
use Rattle.std.specs.Prelude.{Result, Ok, Err}
use Rattle.std.specs.Int.{from_bool}
use Rattle.answers.specs.Answers.{Check, clear, Answer, value_of, code_of, judged}
use Rattle.answers.specs.declared.Refusal.{Refusal}
use Rattle.answers.proofs.Numbers.{told-apart}
use Rattle.answers.proofs.Values.{place_of}
use Rattle.checks.proofs.Clears.{parcel-place}
use Rattle.diagnosing.specs.declared.Setting.{Setting}
use Rattle.diagnosing.specs.declared.Differs.{Differs}
use Rattle.diagnosing.specs.declared.Diagnosis.{Diagnosis}
use Rattle.diagnosing.specs.declared.Diagnosis.TheVariants.{AsAsked, Other, NoneOfSixteen}
use Rattle.diagnosing.specs.Diagnosing.{sixteen, nth, differs, first_of, reason_at, reason_for, diagnose_call, bit, differ_number, reason_number, reason_told}
use Rattle.diagnosing.proofs.Reasons.{reason-either}

pub bit-most : (b : Bool) → bit b ≤ 1
bit-most true = lit≤ tt
bit-most false = lit≤ tt

pub differ_most : (d : Differs) → differ_number d ≤ 7
unfolding differ_number
differ_most d = omega (arith, bit-most d.start, bit-most d.mode, bit-most d.rounds)

-- 1 where it is true, as the library has it
pub bit_is : (b : Bool) → from_bool b ≡ bit b
bit_is true = refl
bit_is false = refl

-- ---- what the call can say: a setting of the sixteen, and a place below 2^32

abbrev Sayable : Diagnosis → Type 0
Sayable AsAsked = Unit
Sayable (Other n d) = n < 16
Sayable NoneOfSixteen = Unit

abbrev Answerable : Result Diagnosis Refusal → Type 0
Answerable (Ok reason) = Sayable reason
Answerable (Err found) = found.place < 2 ^ 32

at-sayable : (asked : Setting) (n : ℕ) → Sayable (reason_at asked n)
unfolding reason_at
at-sayable asked n = decided _ refl
  where
    decided : (t : Bool) → ltb n 16 ≡ t → Sayable (cond t (Other n (differs asked (nth sixteen n))) NoneOfSixteen)
    decided true e = ltb-true n 16 e
    decided false e = tt

reason-sayable : (test : Setting → Bool) (asked : Setting) → Sayable (reason_for test asked)
reason-sayable test asked = reason-either test asked Sayable tt (at-sayable asked (first_of test sixteen))

checked-answerable : (c : Check) (r : Result Diagnosis Refusal) → place_of c < 2 ^ 32 → Answerable r → Answerable (judged c r)
unfolding judged
checked-answerable (Ok none) r h k = k
checked-answerable (Err found) r h k = h

call-answerable : (old : Bool) (mode rounds : ℕ) (key nonce header parcel : List ℕ) → Answerable (diagnose_call old mode rounds key nonce header parcel)
unfolding diagnose_call
call-answerable old mode rounds key nonce header parcel =
    checked-answerable _ _ (parcel-place mode rounds (length key) (length nonce) (length header) (length parcel) (2 ^ 32) clear (lit< tt) (lit< tt)) (reason-sayable _ _)

-- ---- its value is small

number-lt : (d : Diagnosis) → Sayable d → reason_number d < 2 ^ 32
unfolding reason_number
number-lt AsAsked h = lit< tt
number-lt (Other n d) h = omega (arith, differ_most d)
number-lt NoneOfSixteen h = lit< tt

answerable-lt : (r : Result Diagnosis Refusal) → Answerable r → value_of (reason_told r) < 2 ^ 32
unfolding reason_told
answerable-lt (Ok reason) h = number-lt reason h
answerable-lt (Err found) h = h

pub diagnose-small : (old : Bool) (mode rounds : ℕ) (key nonce header parcel : List ℕ) → value_of (reason_told (diagnose_call old mode rounds key nonce header parcel)) < 2 ^ 32
diagnose-small old mode rounds key nonce header parcel = answerable-lt _ (call-answerable old mode rounds key nonce header parcel)

-- ---- and tells the diagnosis

abbrev differs_of : ℕ → Differs
differs_of k = record { start = eqb (k % 2) 1; mode = eqb (k / 2 % 2) 1; rounds = eqb (k / 4) 1 }

differs-back : (d : Differs) → differs_of (differ_number d) ≡ d
unfolding differ_number
differs-back d = each d.start d.mode d.rounds
  where
    each : (a b c : Bool) → ◌≡◌ {A = Differs} (differs_of (bit a + 2 * bit b + 4 * bit c)) (record { start = a; mode = b; rounds = c })
    each true true true = refl
    each true true false = refl
    each true false true = refl
    each true false false = refl
    each false true true = refl
    each false true false = refl
    each false false true = refl
    each false false false = refl

abbrev reason_of : ℕ → Diagnosis
reason_of v = cond (eqb v 0) AsAsked (cond (eqb v 255) NoneOfSixteen (Other ((v - 1) % 32) (differs_of ((v - 1) / 32))))

abbrev found_of : Answer → Result Diagnosis Refusal
found_of (Ok v) = Ok (reason_of v)
found_of (Err found) = Err found

other-back : (n k v : ℕ) → n < 16 → k ≤ 7 → v ≡ 1 + n + 32 * k → reason_of v ≡ Other n (differs_of k)
other-back n k v h l e =
    let some : v ≢ 0 = λ q. absurd (omega arith) in
    let low : v ≢ 255 = λ q. absurd (omega arith) in
    let at : (v - 1) % 32 ≡ n = omega arith in
    let differ : (v - 1) / 32 ≡ k = omega arith in
    rw (ne_eqb v 0 some, ne_eqb v 255 low, at, differ)

reason-back : (d : Diagnosis) → Sayable d → reason_of (reason_number d) ≡ d
unfolding reason_number
reason-back AsAsked h = refl
reason-back (Other n d) h = other-back n (differ_number d) _ h (differ_most d) refl ∙ ap (Other n) (differs-back d)
reason-back NoneOfSixteen h = refl

found-back : (r : Result Diagnosis Refusal) → Answerable r → found_of (reason_told r) ≡ r
unfolding reason_told
found-back (Ok reason) h = ap Ok (reason-back reason h)
found-back (Err found) h = refl

pub diagnoses-apart : (old old' : Bool) (mode rounds mode' rounds' : ℕ) (key nonce header parcel key' nonce' header' parcel' : List ℕ)
    → code_of (reason_told (diagnose_call old mode rounds key nonce header parcel)) ≡ code_of (reason_told (diagnose_call old' mode' rounds' key' nonce' header' parcel'))
    → diagnose_call old mode rounds key nonce header parcel ≡ diagnose_call old' mode' rounds' key' nonce' header' parcel'
diagnoses-apart old old' mode rounds mode' rounds' key nonce header parcel key' nonce' header' parcel' e =
    let h = call-answerable old mode rounds key nonce header parcel in
    let h' = call-answerable old' mode' rounds' key' nonce' header' parcel' in
    sym (found-back _ h) ∙ ap found_of (told-apart _ _ (answerable-lt _ h) (answerable-lt _ h') e) ∙ found-back _ h'
