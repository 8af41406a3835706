-- What the calls answer is small: each place, and each value but the total. Assumes nothing.
use mathlib.Core.Path.{◌≡◌, refl, sym, ap, ◌∙◌}
use mathlib.Core.Bool.{true, not, cond, false≢true}
use mathlib.Core.List.{List}
use Prim.Native.Nat.{ℕ, ◌+◌, ◌*◌, ◌^◌, ◌<◌}
use native.Mathlib.Omega.{arith}
use native.Mathlib.Decide.{ℕ_discrete}
use lib.Dec.{eqb, lit<}
use lib.ListN.{length}
use borrow.Author.Tests.{eq-eqb, ne_eqb, eqb-false, not-false}
use Rattle.words.specs.Block.{Bytes}
use Rattle.words.proofs.Blocks.{bytes_take, bytes_drop}
use Rattle.std.specs.Prelude.{Result, Ok, Err, Option, Some, None}
use Rattle.answers.specs.declared.Refusal.{Refusal}
use Rattle.answers.specs.Answers.{Check, clear, Answer, value_of, line, judged}
use Rattle.answers.specs.declared.Ground.TheVariants.{KeyLength, TagDiffers, StoreFull, SaleNumbers}
use Rattle.answers.proofs.Numbers.{told-apart}
use Rattle.answers.proofs.Values.{place_of, line_clear, line_at-lt, checked-lt, judged-lt}
use Rattle.cells.specs.Chains.{some, first}
use Rattle.cells.specs.Cells.{cells, first_free, kind_of, body_of, sales, kind_fits, formed, named, present, cell_named}
use Rattle.cells.proofs.Chains.{first-in}
use Rattle.cells.proofs.Form.{form_of}
use Rattle.cells.proofs.FirstFault.{check-formed, check-place, length-place}
use Rattle.sales.specs.declared.Sale.{Sale}
use Rattle.sales.specs.Sale.{Detail, detail_in, sale_in}
use Rattle.sales.specs.Sale.Detail.{clock, listed}
use Rattle.sales.proofs.Bodies.{amount-lt}
use Rattle.entries.specs.Entries.{shut_at, sale_at}
use Rattle.store.specs.declared.LookUp.{LookUp}
use Rattle.store.specs.Store.{form_checks, key_checks, format_checks, take_checks, cancel_checks, total_checks, read_checks, format_call, take_call, cancel_call, read_offset, priced_by, amount_and_price, look_up_call, kind_by, kind_told, amount_told, price_or, price_told, looked_up}
use Rattle.store.proofs.Sought.{cell-inside, free-inside}
use Rattle.store.proofs.Calls.{key-all}

-- a cell of a store of right form
cell-low : (s : List ℕ) (c : ℕ) → formed s ≡ true → c < cells s → 64 * c + 64 < 2 ^ 32
cell-low s c e h = let f = (form_of s e).size in omega (arith, f.whole, f.most)

-- the checks in front have place 0 or that of a cell
form-place : (s : List ℕ) (next : Check) → (formed s ≡ true → place_of next < 2 ^ 32) → place_of (form_checks s next) < 2 ^ 32
unfolding form_checks
form-place s next h = check-place s next h

key-place : (key s : List ℕ) (next : Check) → (formed s ≡ true → place_of next < 2 ^ 32) → place_of (key_checks key s next) < 2 ^ 32
unfolding key_checks line
key-place key s next h = line_at-lt (2 ^ 32) (not (eqb (length key) 32)) KeyLength 0 (form_checks s next) (λ t. lit< tt) (λ t. form-place s next h)

-- where all checks are clear
form-all : (s : List ℕ) (next : Check) → form_checks s next ≡ clear → (formed s ≡ true) × (next ≡ clear)
unfolding form_checks
form-all s next e = check-formed s next e

pub format_small : (s : List ℕ) → value_of (format_call s).0 < 2 ^ 32
unfolding format_call format_checks
format_small s = checked-lt (2 ^ 32) (format_checks s) s _ (rw (length-place s) (lit< tt)) (λ e. lit< tt)

pub take-small : (key : List ℕ) (x : Sale) (s : List ℕ) → value_of (take_call key x s).0 < 2 ^ 32
unfolding take_call take_checks
take-small key x s =
    checked-lt (2 ^ 32) (take_checks key x s) s _
    (key-place key s _ (λ f. unfold line in line_at-lt (2 ^ 32) (present x.machine x.sale s) SaleNumbers 0 _ (λ t. lit< tt)
    (λ p. line_at-lt (2 ^ 32) (eqb (first_free s) 0) StoreFull 0 clear (λ t. lit< tt) (λ t. lit< tt))))
    (λ e.
    let a = key-all key s _ e in
    let free = (line_clear (eqb (first_free s) 0) StoreFull clear (line_clear (present x.machine x.sale s) SaleNumbers _ a.1).1).0 in
    omega (arith, cell-low s (first_free s) a.0 (free-inside s a.0 (eqb-false (first_free s) 0 free))))

cancel-place : (key : List ℕ) (machine sale : ℕ) (s : List ℕ) → place_of (cancel_checks key machine sale s) < 2 ^ 32
unfolding cancel_checks
cancel-place key machine sale s =
    let c = cell_named machine sale s in
    key-place key s _ (λ f. unfold line in line_at-lt (2 ^ 32) (not (present machine sale s)) SaleNumbers 0 _ (λ t. lit< tt)
    (λ p. line_at-lt (2 ^ 32) (shut_at key s c) TagDiffers c clear (λ t. omega (arith, cell-low s c f (cell-inside machine sale s f (not-false _ p)))) (λ t. lit< tt)))

pub cancel-small : (key : List ℕ) (machine sale : ℕ) (s : List ℕ) → Bytes s → value_of (cancel_call key machine sale s).0 < 2 ^ 32
unfolding cancel_call
cancel-small key machine sale s h =
    let c = cell_named machine sale s in
    checked-lt (2 ^ 32) (cancel_checks key machine sale s) s _ (cancel-place key machine sale s)
    (λ e. unfold sale_at body_of in amount-lt key _ _ (bytes_take 61 _ (bytes_drop (64 * c + 3) s h)))

-- a look-up answers 2, 1 or a place
looked-lt : (c : Check) (amount : ℕ) (d : Detail) → place_of c < 2 ^ 32 → value_of (kind_told (judged c (Ok (priced_by amount d)))) < 2 ^ 32
unfolding kind_told judged priced_by
looked-lt (Ok none) amount (listed price day) h = lit< tt
looked-lt (Ok none) amount (clock bytes) h = lit< tt
looked-lt (Err found) amount d h = h

pub look-up-small : (key : List ℕ) (machine sale : ℕ) (s : List ℕ) → value_of (kind_told (look_up_call key machine sale s)) < 2 ^ 32
unfolding look_up_call amount_and_price
look-up-small key machine sale s = looked-lt (cancel_checks key machine sale s) _ _ (cancel-place key machine sale s)

-- of a sale in the chain the kind is one or the other
kind-told : (kind amount : ℕ) (r : List ℕ) → kind_fits true kind ≡ true → kind_told (Ok (priced_by amount (detail_in kind r))) ≡ Ok kind
unfolding kind_fits kind_told priced_by detail_in
kind-told kind amount r e = elim (ℕ_discrete kind 2) [
  | yes q ↦ rw (eq-eqb kind 2 q, q)
  | no q ↦ elim (ℕ_discrete kind 1) [
    | yes p ↦ rw (ne_eqb kind 2 q, p)
    | no p ↦ absurd (false≢true (rw (ne_eqb kind 1 p, ne_eqb kind 2 q) at e))
  ]
]

-- where cancel's checks are clear, the sale's kind fits
named-fits : (key : List ℕ) (machine sale : ℕ) (s : List ℕ) → cancel_checks key machine sale s ≡ clear → kind_fits true (kind_of s (cell_named machine sale s)) ≡ true
unfolding cancel_checks present cell_named
named-fits key machine sale s e =
    let h = key-all key s _ e in
    let there = not-false _ (line_clear (not (present machine sale s)) SaleNumbers _ h.1).0 in
    (form_of s h.0).sold-kind _ (first-in (named machine sale s) (sales s) there)

kind-judged : (c : Check) (kind amount : ℕ) (r : List ℕ) → (c ≡ clear → kind_fits true kind ≡ true)
    → kind_told (judged c (Ok (priced_by amount (detail_in kind r)))) ≡ judged c (Ok kind)
unfolding judged kind_told
kind-judged (Ok none) kind amount r h = kind-told kind amount r (h refl)
kind-judged (Err found) kind amount r h = refl

-- a look-up that is not refused answers the kind of the sale's cell
pub look-up-kind : (key : List ℕ) (machine sale : ℕ) (s : List ℕ) → kind_told (look_up_call key machine sale s) ≡ judged (cancel_checks key machine sale s) (Ok (kind_of s (cell_named machine sale s)))
unfolding look_up_call amount_and_price sale_at sale_in
look-up-kind key machine sale s = kind-judged (cancel_checks key machine sale s) (kind_of s (cell_named machine sale s)) _ _ (named-fits key machine sale s)

-- a look-up by its number and the two variables
abbrev look_up_of : Answer → ℕ → ℕ → Result LookUp Refusal
look_up_of (Ok kind) amount price = Ok (record { amount = amount; price = cond (eqb kind 2) (Some price) None })
look_up_of (Err found) amount price = Err found

look-up-back : (r : Result LookUp Refusal) (amount price : ℕ) → look_up_of (kind_told r) (amount_told r amount) (price_told r price) ≡ r
unfolding kind_told amount_told price_told
look-up-back (Err found) amount price = refl
look-up-back (Ok told) amount price = ap (λ (p : Option ℕ). Ok (record { amount = told.amount; price = p })) (back told.price) where
  back : (p : Option ℕ) → cond (eqb (kind_by p) 2) (Some (price_or p price)) None ≡ p
  back (Some q) = refl
  back None = refl

pub look-ups-apart : (a b : Result LookUp Refusal) (amount price amount' price' : ℕ) → value_of (kind_told a) < 2 ^ 32 → value_of (kind_told b) < 2 ^ 32
    → looked_up a amount price ≡ looked_up b amount' price' → a ≡ b
unfolding looked_up
look-ups-apart a b amount price amount' price' h k e =
    let number = told-apart (kind_told a) (kind_told b) h k (ap (λ (r : ℕ × (ℕ × ℕ)). r.0) e) in
    let one = ap (λ (r : ℕ × (ℕ × ℕ)). r.1.0) e in
    let other = ap (λ (r : ℕ × (ℕ × ℕ)). r.1.1) e in
    sym (look-up-back a amount price) ∙ rw (number, one, other) (look-up-back b amount' price')

-- total's value may be larger; its place is not
pub total-place : (key s : List ℕ) → place_of (total_checks key s) < 2 ^ 32
unfolding total_checks
total-place key s =
    key-place key s _ (λ f. line_at-lt (2 ^ 32) (some (shut_at key s) (sales s)) TagDiffers (first (shut_at key s) (sales s)) clear
    (λ t. omega (arith, cell-low s (first (shut_at key s) (sales s)) f ((form_of s f).sold-here _ (first-in (shut_at key s) (sales s) t)))) (λ t. lit< tt))

pub read_small : (machine sale : ℕ) (s : List ℕ) → value_of (read_offset machine sale s) < 2 ^ 32
unfolding read_offset read_checks
read_small machine sale s =
    judged-lt (2 ^ 32) (read_checks machine sale s) _
    (form-place s _ (λ f. unfold line in line_at-lt (2 ^ 32) (not (present machine sale s)) SaleNumbers 0 clear (λ t. lit< tt) (λ t. lit< tt)))
    (λ e.
    let f = form-all s _ e in
    let p = (line_clear (not (present machine sale s)) SaleNumbers clear f.1).0 in
    omega (arith, cell-low s (cell_named machine sale s) f.0 (cell-inside machine sale s f.0 (not-false _ p))))
