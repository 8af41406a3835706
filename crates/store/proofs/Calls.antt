-- The calls by what their checks find, one check after the other. Assumes nothing.
use mathlib.Core.Path.{◌≡◌, refl, sym, ap, ◌∙◌}
use mathlib.Core.Bool.{true, false, not, true≢false}
use mathlib.Core.List.{List, []}
use Prim.Native.Nat.{ℕ, ◌<◌}
use lib.Dec.{eqb}
use lib.ListN.{length}
use borrow.Author.Tests.{eq-eqb, ne_eqb, eqb-true, not-false}
use Rattle.std.specs.Prelude.{Result, Ok, Err, Option, Some, None, IsErrAnd, ok_or, is_ok}
use Rattle.std.specs.Result.{result_and}
use Rattle.answers.specs.declared.Refusal.{Refusal}
use Rattle.answers.specs.Refusals.{refusal}
use Rattle.answers.specs.Answers.{Check, clear, Answer, line_at, line, judged}
use Rattle.answers.specs.declared.Ground.TheVariants.{KeyLength, TagDiffers, StoreFull, SaleNumbers}
use Rattle.answers.proofs.Values.{is_clear, after, line_after, line_clear, stopped, passed_on, refused, allowed, refused-or, allowed-or}
use Rattle.cells.specs.Numbers.{number_at}
use Rattle.cells.specs.Cells.{cells, first_free, kind_of, body_of, formed, present, cell_named}
use Rattle.cells.specs.Faults.{fault_of}
use Rattle.cells.specs.Changes.{filled, emptied}
use Rattle.cells.proofs.FirstFault.{check-formed, check-after}
use Rattle.sales.specs.declared.Sale.{Sale}
use Rattle.sales.specs.Sale.{body_for, record_in, numbers_in, detail_in, sale_in}
use Rattle.entries.specs.Entries.{opens_at, shut_at, sale_at}
use Rattle.store.specs.declared.Named.{Named}
use Rattle.store.specs.Store.{form_checks, key_checks, take_checks, cancel_checks, read_checks, take_call, cancel_call, read_part, priced_by, amount_and_price, look_up_call, handed}
use Rattle.store.specs.Named.{named_of}
use Rattle.chains.specs.Found.{stands_at}
use Rattle.store.proofs.Sought.{cell-inside, before-inside}

-- ---- the checks that stand in front

pub form-clear : (s : List ℕ) → form_checks s clear ≡ clear → formed s ≡ true
unfolding form_checks
form-clear s e = (check-formed s clear e).0

pub form-after : (s : List ℕ) (next : Check) → form_checks s next ≡ after (form_checks s clear) next
unfolding form_checks
form-after s next = check-after (fault_of s) next

pub key-clear : (key s : List ℕ) → key_checks key s clear ≡ clear → (length key ≡ 32) × (formed s ≡ true)
unfolding key_checks
key-clear key s e =
    let h = line_clear (not (eqb (length key) 32)) KeyLength (form_checks s clear) e in
    (eqb-true (length key) 32 (not-false _ h.0), form-clear s h.1)

pub key-after : (key s : List ℕ) (next : Check) → key_checks key s next ≡ after (key_checks key s clear) next
unfolding key_checks
key-after key s next =
    ap (line (not (eqb (length key) 32)) KeyLength) (form-after s next) ∙ line_after (not (eqb (length key) 32)) KeyLength (form_checks s clear) next

pub key-all : (key s : List ℕ) (next : Check) → key_checks key s next ≡ clear → (formed s ≡ true) × (next ≡ clear)
unfolding key_checks form_checks
key-all key s next e = check-formed s next (line_clear (not (eqb (length key) 32)) KeyLength _ e).1

-- ---- a call by its checks

-- the error of a `?`
pub error-is : {A E : Type 0} (r : Result A E) {e : E} → IsErrAnd r (λ d. d ≡ e) → r ≡ Err e
error-is (Ok x) h = absurd h
error-is (Err d) h = ap Err h

-- the error that stands for nothing found
abbrev error_or : {A E : Type 0} → E → Result A E → E
error_or other (Ok x) = other
error_or other (Err d) = d

pub missing : {A E : Type 0} (o : Option A) (e x : E) → Err x ≡ ok_or o e → x ≡ e
missing None e x h = ap (error_or e) h
missing (Some y) e x h = absurd (true≢false (sym (ap is_ok h)))

-- a value that was answered, and that which checks let through
abbrev value_or : {A : Type 0} → A → Result A Refusal → A
value_or other (Ok x) = x
value_or other (Err found) = other

abbrev tells : {A : Type 0} → Result A Refusal → Check
tells (Ok x) = clear
tells (Err found) = Err found

judged-ok : {A : Type 0} (c : Check) (v w : A) → judged c (Ok v) ≡ Ok w → (c ≡ clear) × (v ≡ w)
unfolding judged
judged-ok (Ok none) v w e = (refl, ap (value_or v) e)
judged-ok (Err found) v w e = absurd (true≢false (sym (ap is_clear (ap tells e))))

judged-err : {A : Type 0} (c : Check) (v : A) {why : Refusal} → judged c (Ok v) ≡ Err why → c ≡ Err why
unfolding judged
judged-err (Ok none) v e = absurd (true≢false (ap is_clear (ap tells e)))
judged-err (Err found) v e = ap tells e

-- another value in the place of that which checks let through
pub judged-and : (c : Check) (v w : ℕ) {a : Answer} → a ≡ judged c (Ok v) → result_and a (Ok w) ≡ judged c (Ok w)
unfolding judged
judged-and c v w e = ap (λ (r : Answer). result_and r (Ok w)) e ∙ go c where
  go : (c : Check) → result_and (judged c (Ok v)) (Ok w) ≡ judged c (Ok w)
  go (Ok none) = refl
  go (Err found) = refl

module _ (key : List ℕ) (x : Sale) (s : List ℕ) where
  next : Check
  next = line (present x.machine x.sale s) SaleNumbers (line (eqb (first_free s) 0) StoreFull clear)

  split : take_checks key x s ≡ after (key_checks key s clear) next
  unfolding take_checks next
  split = key-after key s next

  pub take-stopped : {why : Refusal} → key_checks key s clear ≡ Err why → (Err why, s) ≡ take_call key x s
  unfolding take_call
  take-stopped q = refused _ s _ refl (stopped (key_checks key s clear) next split q)

  module _ (q : key_checks key s clear ≡ clear) where
    on : take_checks key x s ≡ next
    on = passed_on (key_checks key s clear) next split q

    pub take-present : present x.machine x.sale s ≡ true → (Err (refusal SaleNumbers 0), s) ≡ take_call key x s
    unfolding take_call next line line_at
    take-present p = refused _ s _ refl (on ∙ rw p)

    pub take-full : present x.machine x.sale s ≡ false → first_free s ≡ 0 → (Err (refusal StoreFull 0), s) ≡ take_call key x s
    unfolding take_call next line line_at
    take-full p z = refused _ s _ refl (on ∙ rw (p, eq-eqb (first_free s) 0 z))

    pub take_done : (c : ℕ) (t : List ℕ) → present x.machine x.sale s ≡ false → c ≡ first_free s → (c ≡ 0 → ⊥) → t ≡ filled (body_for key x) s
        → (Ok c, t) ≡ take_call key x s
    unfolding take_call next line line_at
    take_done c t p h z w =
        rw (h, w) (allowed s (Ok (first_free s), filled (body_for key x) s) refl (on ∙ rw (p, ne_eqb (first_free s) 0 (λ e. z (h ∙ e)))))

-- ---- a sale named and opened

module _ (key : List ℕ) (machine sale : ℕ) (s : List ℕ) where
  -- the sale named, with the numbers of its record
  abbrev named_here : Named
  named_here = record { place = stands_at machine sale s; held = numbers_in (record_in key (body_of s (cell_named machine sale s))) }

  last : Check
  last =
      let c = cell_named machine sale s in
      line (not (present machine sale s)) SaleNumbers (line_at (shut_at key s c) TagDiffers c clear)

  parted : cancel_checks key machine sale s ≡ after (key_checks key s clear) last
  unfolding cancel_checks last
  parted = key-after key s last

  pub named-stopped : {why : Refusal} → key_checks key s clear ≡ Err why → Err why ≡ named_of key machine sale s
  unfolding named_of
  named-stopped q = refused-or _ _ _ refl (stopped (key_checks key s clear) last parted q)

  module _ (q : key_checks key s clear ≡ clear) where
    behind : cancel_checks key machine sale s ≡ last
    behind = passed_on (key_checks key s clear) last parted q

    pub named-absent : present machine sale s ≡ false → Err (refusal SaleNumbers 0) ≡ named_of key machine sale s
    unfolding named_of last line line_at
    named-absent p = refused-or _ _ _ refl (behind ∙ rw p)

    module _ (p : present machine sale s ≡ true) where
      pub named-shut : opens_at key s (cell_named machine sale s) ≡ false → Err (refusal TagDiffers (cell_named machine sale s)) ≡ named_of key machine sale s
      unfolding named_of last line line_at shut_at
      named-shut o = refused-or _ _ _ refl (behind ∙ rw (p, o))

      pub named-open : opens_at key s (cell_named machine sale s) ≡ true → Ok named_here ≡ named_of key machine sale s
      unfolding named_of last line line_at shut_at
      named-open o = allowed-or _ _ refl (behind ∙ rw (p, o))

  named-ok : {n : Named} → Ok n ≡ named_of key machine sale s → (cancel_checks key machine sale s ≡ clear) × (n ≡ named_here)
  unfolding named_of
  named-ok e = let h = judged-ok (cancel_checks key machine sale s) _ _ (sym e) in (h.0, sym h.1)

  named-fails : {why : Refusal} → Err why ≡ named_of key machine sale s → cancel_checks key machine sale s ≡ Err why
  unfolding named_of
  named-fails e = judged-err (cancel_checks key machine sale s) _ (sym e)

  module _ {n : Named} (e : Ok n ≡ named_of key machine sale s) where
    -- both cells are the store's
    pub named-inside : (n.place.before < cells s) × (n.place.cell < cells s)
    unfolding cancel_checks
    named-inside =
        let h = key-all key s _ (named-ok e).0 in
        let p = not-false _ (line_clear (not (present machine sale s)) SaleNumbers _ h.1).0 in
        rw (named-ok e).1 (before-inside machine sale s h.0, cell-inside machine sale s h.0 p)

    -- ---- what cancel and look-up make of it

    pub cancel-done : (t : List ℕ) → t ≡ emptied n.place.before n.place.cell s → (Ok n.held.amount, t) ≡ cancel_call key machine sale s
    unfolding cancel_call sale_at sale_in
    cancel-done t w = rw (w, (named-ok e).1) (allowed s _ refl (named-ok e).0)

    looked : Ok (priced_by n.held.amount (detail_in (kind_of s (cell_named machine sale s)) (record_in key (body_of s (cell_named machine sale s))))) ≡ look_up_call key machine sale s
    unfolding look_up_call amount_and_price sale_at sale_in
    looked = rw (named-ok e).1 (allowed-or _ _ refl (named-ok e).0)

    kind-same : kind_of s n.place.cell ≡ kind_of s (cell_named machine sale s)
    kind-same = rw (named-ok e).1

    price-same : n.held.price ≡ number_at 4 7 (record_in key (body_of s (cell_named machine sale s)))
    price-same = rw (named-ok e).1

    pub looked-priced : kind_of s n.place.cell ≡ 2 → Ok (record { amount = n.held.amount; price = Some n.held.price }) ≡ look_up_call key machine sale s
    unfolding priced_by detail_in
    looked-priced k = rw price-same (rw (eq-eqb (kind_of s (cell_named machine sale s)) 2 (sym kind-same ∙ k)) at looked)

    pub looked-unpriced : (kind_of s n.place.cell ≡ 2 → ⊥) → Ok (record { amount = n.held.amount; price = None }) ≡ look_up_call key machine sale s
    unfolding priced_by detail_in
    looked-unpriced k = rw (ne_eqb (kind_of s (cell_named machine sale s)) 2 (λ q. k (kind-same ∙ q))) at looked

  pub cancel-refused : {why : Refusal} → Err why ≡ named_of key machine sale s → (Err why, s) ≡ cancel_call key machine sale s
  unfolding cancel_call
  cancel-refused e = refused _ s _ refl (named-fails e)

  pub looked-refused : {why : Refusal} → Err why ≡ named_of key machine sale s → Err why ≡ look_up_call key machine sale s
  unfolding look_up_call
  looked-refused e = refused-or _ _ _ refl (named-fails e)

-- ---- calls that write nothing

-- total: the first checks, then the rest
module _ (key s : List ℕ) (next : Check) (r : Answer) where
  pub total-stopped : {why : Refusal} → key_checks key s clear ≡ Err why → Err why ≡ judged (key_checks key s next) r
  total-stopped q = refused-or _ _ r refl (stopped (key_checks key s clear) next (key-after key s next) q)

  pub total-on : key_checks key s clear ≡ clear → judged next r ≡ judged (key_checks key s next) r
  total-on q = ap (λ (c : Check). judged c r) (sym (passed_on (key_checks key s clear) next (key-after key s next) q))

-- read
module _ (machine sale : ℕ) (s : List ℕ) (r : Answer) where
  absent : Check
  absent = line (not (present machine sale s)) SaleNumbers clear

  read-split : read_checks machine sale s ≡ after (form_checks s clear) absent
  unfolding read_checks absent
  read-split = form-after s absent

  pub read-stopped : {why : Refusal} → form_checks s clear ≡ Err why → Err why ≡ judged (read_checks machine sale s) r
  read-stopped q = refused-or _ _ r refl (stopped (form_checks s clear) absent read-split q)

  module _ (q : form_checks s clear ≡ clear) where
    read_behind : read_checks machine sale s ≡ absent
    read_behind = passed_on (form_checks s clear) absent read-split q

    pub read-absent : present machine sale s ≡ false → Err (refusal SaleNumbers 0) ≡ judged (read_checks machine sale s) r
    unfolding absent line line_at
    read-absent p = refused-or _ _ r refl (read_behind ∙ rw p)

    pub read-there : present machine sale s ≡ true → r ≡ judged (read_checks machine sale s) r
    unfolding absent line line_at
    read-there p = allowed-or _ r refl (read_behind ∙ rw p)

-- ---- what was located

module _ (machine sale : ℕ) (s : List ℕ) {a : Answer} (e : a ≡ judged (read_checks machine sale s) (Ok (cell_named machine sale s))) where
  module _ {c : ℕ} (q : a ≡ Ok c) where
    pub located : (read_checks machine sale s ≡ clear) × (c ≡ cell_named machine sale s)
    located = let h = judged-ok (read_checks machine sale s) (cell_named machine sale s) c (sym e ∙ q) in (h.0, sym h.1)

    pub located-inside : c < cells s
    unfolding read_checks form_checks
    located-inside =
        let h = check-formed s _ located.0 in
        let p = not-false _ (line_clear (not (present machine sale s)) SaleNumbers clear h.1).0 in
        rw located.1 (cell-inside machine sale s h.0 p)

    pub located-formed : formed s ≡ true
    unfolding read_checks form_checks
    located-formed = (check-formed s _ located.0).0

    pub located-part : {part : List ℕ} → part ≡ body_of s c → part ≡ read_part machine sale s
    unfolding read_part handed
    located-part p = p ∙ rw (located.0, located.1)

    pub located-judged : (r : Answer) → r ≡ judged (read_checks machine sale s) r
    located-judged r = allowed-or _ r refl located.0

  module _ {why : Refusal} (q : a ≡ Err why) where
    fails : read_checks machine sale s ≡ Err why
    fails = judged-err (read_checks machine sale s) (cell_named machine sale s) (sym e ∙ q)

    pub unlocated-part : [] ≡ read_part machine sale s
    unfolding read_part handed
    unlocated-part = rw fails

    pub unlocated-judged : (r : Answer) → Err why ≡ judged (read_checks machine sale s) r
    unlocated-judged r = refused-or _ _ r refl fails
