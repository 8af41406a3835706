-- The one number for C tells answers apart, and what total lays beside it. Assumes nothing.
use mathlib.Core.Path.{◌≡◌, refl, sym, ap, ap₂, ◌∙◌}
use mathlib.Core.Bool.{cond}
use mathlib.Core.List.{List, [], ◌∷◌}
use Prim.Native.Nat.{ℕ, zero, suc, ◌/◌, ◌%◌, ◌^◌, ◌<◌}
use lib.Arith.{digits_div, digits_mod}
use lib.Dec.{eqb, lit<}
use Rattle.std.specs.Prelude.{Ok, Err}
use Rattle.answers.specs.Answers.{Check, Answer, ground_number, number_of, value_of, code_of, judged, shown, totalled}
use Rattle.answers.specs.Refusals.{refusal}
use Rattle.answers.specs.declared.Refusal.{Refusal}
use Rattle.answers.specs.declared.Ground.{Ground}
use Rattle.answers.specs.declared.Ground.TheVariants.{ModeNumber, Rounds, KeyLength, NonceLength, HeaderLength, InputLength, OutputLength, TagMissing, TagDiffers, StartLength, NetCount, StepByte, ListLength, StoreFull, SaleNumbers, DoneAlready, StoreLength, StoreIndex, StoreKind}
use Rattle.answers.proofs.Values.{place_of}

-- an answer's number and value, taken apart again
pub taken-apart : (a : Answer) → value_of a < 2 ^ 32 → (code_of a / 2 ^ 32 ≡ number_of a) × (code_of a % 2 ^ 32 ≡ value_of a)
unfolding code_of
taken-apart a h = (digits_div (number_of a) h, digits_mod (number_of a) h)

-- ---- back from the number

-- all grounds
abbrev grounds : List Ground
grounds =
    ModeNumber ∷ Rounds ∷ KeyLength ∷ NonceLength ∷ HeaderLength ∷ InputLength ∷ OutputLength ∷ TagMissing ∷ TagDiffers ∷ StartLength ∷ NetCount ∷ StepByte ∷ ListLength ∷ StoreFull ∷ SaleNumbers ∷ DoneAlready ∷ StoreLength ∷ StoreIndex ∷ StoreKind ∷ []

-- the first of them with that number
abbrev ground_of : List Ground → ℕ → Ground
ground_of [] n = ModeNumber
ground_of (why ∷ others) n = cond (eqb (ground_number why) n) why (ground_of others n)

-- the answer with that number, and that value or place
abbrev answer_of : ℕ → ℕ → Answer
answer_of zero value = Ok value
answer_of (suc n) place = Err (refusal (ground_of grounds (suc n)) place)

ground_back : (why : Ground) (place : ℕ) → answer_of (ground_number why) place ≡ Err (refusal why place)
ground_back ModeNumber place = refl
ground_back Rounds place = refl
ground_back KeyLength place = refl
ground_back NonceLength place = refl
ground_back HeaderLength place = refl
ground_back InputLength place = refl
ground_back OutputLength place = refl
ground_back TagMissing place = refl
ground_back TagDiffers place = refl
ground_back StartLength place = refl
ground_back NetCount place = refl
ground_back StepByte place = refl
ground_back ListLength place = refl
ground_back StoreFull place = refl
ground_back SaleNumbers place = refl
ground_back DoneAlready place = refl
ground_back StoreLength place = refl
ground_back StoreIndex place = refl
ground_back StoreKind place = refl

answer_back : (a : Answer) → answer_of (number_of a) (value_of a) ≡ a
answer_back (Ok value) = refl
answer_back (Err found) = ground_back found.why found.place

pub told-apart : (a b : Answer) → value_of a < 2 ^ 32 → value_of b < 2 ^ 32 → code_of a ≡ code_of b → a ≡ b
told-apart a b h k e =
    let of-a = taken-apart a h in
    let of-b = taken-apart b k in
    let number : number_of a ≡ number_of b = sym of-a.0 ∙ ap (λ (c : ℕ). c / 2 ^ 32) e ∙ of-b.0 in
    let value : value_of a ≡ value_of b = sym of-a.1 ∙ ap (λ (c : ℕ). c % 2 ^ 32) e ∙ of-b.1 in
    sym (answer_back a) ∙ ap₂ answer_of number value ∙ answer_back b

-- ---- total's answer, and its variable

pub shown-lt : (c : Check) (v : ℕ) → place_of c < 2 ^ 32 → value_of (shown (judged c (Ok v))) < 2 ^ 32
unfolding judged
shown-lt (Ok none) v h = lit< tt
shown-lt (Err found) v h = h

pub total-done : (a : Answer) (v before : ℕ) → a ≡ Ok v → (0, v) ≡ totalled a before
unfolding totalled code_of
total-done a v before e = rw e

pub total-refused : (a : Answer) (n before : ℕ) {why : Refusal} → a ≡ Err why → n ≡ code_of (Err why) → (n, before) ≡ totalled a before
unfolding totalled
total-refused a n before e h = rw (e, h)
