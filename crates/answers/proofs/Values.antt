-- Laws of checks, and a bound on what a call answers. Assumes nothing.
use mathlib.Core.Path.{◌≡◌, refl, sym, ap, ◌∙◌, subst}
use mathlib.Core.Bool.{Bool, true, false, true≢false}
use Prim.Native.Nat.{ℕ, ◌≤◌, ◌<◌}
use borrow.Author.Tests.{ltb-false}
use lib.Dec.{ltb}
use Rattle.std.specs.Prelude.{Result, Ok, Err}
use Rattle.answers.specs.Answers.{Check, clear, Answer, value_of, line_at, line, room, checked, judged}
use Rattle.answers.specs.declared.Refusal.{Refusal}
use Rattle.answers.specs.declared.Ground.{Ground}
use Rattle.answers.specs.declared.Ground.TheVariants.{OutputLength}

-- ---- checks that are clear

-- whether checks are clear
abbrev pub is_clear : Check → Bool
is_clear (Ok none) = true
is_clear (Err found) = false

pub line_at-clear : (t : Bool) (g : Ground) (at : ℕ) (next : Check) → line_at t g at next ≡ clear → (t ≡ false) × (next ≡ clear)
unfolding line_at
line_at-clear true g at next e = absurd (true≢false (sym (ap is_clear e)))
line_at-clear false g at next e = (refl, e)

pub line_clear : (t : Bool) (g : Ground) (next : Check) → line t g next ≡ clear → (t ≡ false) × (next ≡ clear)
unfolding line
line_clear t g next e = line_at-clear t g 0 next e

pub room-clear : (needed lent : ℕ) (next : Check) → room needed lent next ≡ clear → (needed ≤ lent) × (next ≡ clear)
unfolding room
room-clear needed lent next e =
    let r = line_clear (ltb lent needed) OutputLength next e in
    (ltb-false lent needed r.0, r.1)

-- ---- checks one after the other

-- the next checks decide where the first ones are clear
unfoldable pub after : Check → Check → Check
after (Ok none) next = next
after (Err found) next = Err found

pub line_after : (t : Bool) (g : Ground) (c next : Check) → line t g (after c next) ≡ after (line t g c) next
unfolding line line_at after
line_after true g c next = refl
line_after false g c next = refl

module _ {all : Check} (c next : Check) (e : all ≡ after c next) where
  pub stopped : {found : Refusal} → c ≡ Err found → all ≡ Err found
  unfolding after
  stopped q = e ∙ ap (λ (x : Check). after x next) q

  pub passed_on : c ≡ clear → all ≡ next
  unfolding after
  passed_on q = e ∙ ap (λ (x : Check). after x next) q

pub after-clear : (c next : Check) → after c next ≡ clear → (c ≡ clear) × (next ≡ clear)
unfolding after
after-clear (Ok none) next e = (refl, e)
after-clear (Err found) next e = absurd (true≢false (sym (ap is_clear e)))

-- ---- a call after its checks

pub refused : {A : Type 0} {c found : Check} (why : Refusal) (out : A) (r : Answer × A) → found ≡ c → found ≡ Err why → (Err why, out) ≡ checked c out r
unfolding checked
refused why out r e q = sym (ap (λ (x : Check). checked x out r) (sym e ∙ q))

pub allowed : {A : Type 0} {c found : Check} (out : A) (r : Answer × A) → found ≡ c → found ≡ clear → r ≡ checked c out r
unfolding checked
allowed out r e q = sym (ap (λ (x : Check). checked x out r) (sym e ∙ q))

pub refused-or : {A : Type 0} (c : Check) {found : Check} (why : Refusal) (r : Result A Refusal) → found ≡ c → found ≡ Err why → Err why ≡ judged c r
unfolding judged
refused-or c why r e q = sym (ap (λ (x : Check). judged x r) (sym e ∙ q))

pub allowed-or : {A : Type 0} (c : Check) {found : Check} (r : Result A Refusal) → found ≡ c → found ≡ clear → r ≡ judged c r
unfolding judged
allowed-or c r e q = sym (ap (λ (x : Check). judged x r) (sym e ∙ q))

-- a refused call changes nothing, where the work behind its checks changes nothing when it refuses
pub checked-unchanged : {A : Type 0} (c : Check) (before : A) (r : Answer × A) (why : Refusal) → (r.0 ≡ Err why → r.1 ≡ before)
    → (checked c before r).0 ≡ Err why → (checked c before r).1 ≡ before
unfolding checked
checked-unchanged (Ok none) before r why h e = h e
checked-unchanged (Err found) before r why h e = refl

-- whether an answer is no refusal
abbrev pub is_done : Answer → Bool
is_done (Ok value) = true
is_done (Err found) = false

-- a refusal as what the checks found
abbrev as_check : Answer → Check
as_check (Ok value) = clear
as_check (Err found) = Err found

pub judged-done : (c : Check) (v w : ℕ) → judged c (Ok v) ≡ Ok w → (c ≡ clear) × (v ≡ w)
unfolding judged
judged-done (Ok none) v w e = (refl, ap value_of e)
judged-done (Err found) v w e = absurd (true≢false (sym (ap is_done e)))

pub judged-refused : (c : Check) (v : ℕ) (why : Refusal) → judged c (Ok v) ≡ Err why → c ≡ Err why
unfolding judged
judged-refused (Ok none) v why e = absurd (true≢false (ap is_done e))
judged-refused (Err found) v why e = ap as_check e

-- ---- a bound on the answer

-- the place that checks find
abbrev pub place_of : Check → ℕ
place_of (Ok none) = 0
place_of (Err found) = found.place

pub line_at-lt : (n : ℕ) (t : Bool) (g : Ground) (at : ℕ) (next : Check) → (t ≡ true → at < n) → (t ≡ false → place_of next < n) → place_of (line_at t g at next) < n
unfolding line_at
line_at-lt n true g at next h k = h refl
line_at-lt n false g at next h k = k refl

pub checked-lt : {A : Type 0} (n : ℕ) (c : Check) (out : A) (r : Answer × A) → place_of c < n → (c ≡ clear → value_of r.0 < n)
    → value_of (checked c out r).0 < n
unfolding checked
checked-lt n (Ok none) out r h k = k refl
checked-lt n (Err found) out r h k = h

pub judged-lt : (n : ℕ) (c : Check) (a : Answer) → place_of c < n → (c ≡ clear → value_of a < n) → value_of (judged c a) < n
unfolding judged
judged-lt n (Ok none) a h k = k refl
judged-lt n (Err found) a h k = h

-- what a call answered is as small as what it was to answer
pub answered-lt : {A : Type 0} (n : ℕ) {a : Answer} {out : A} {r : Answer × A} → (a, out) ≡ r → value_of r.0 < n → value_of a < n
answered-lt {A} n e h = subst (λ (x : Answer × A). value_of x.0 < n) (sym e) h
