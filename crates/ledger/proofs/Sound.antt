-- Stores whose form is as said and whose sales all open: total accepts these, format, take and cancel leave such, and so it is known what the calls answer. Assumes nothing.
use mathlib.Core.Bool.{Bool, true, false, cond, not}
use mathlib.Core.List.{List, [], ◌∷◌, map}
use mathlib.Core.Logic.{inl, inr}
use mathlib.Core.Path.{◌≡◌, refl, sym, ap, ap₂, ◌∙◌, subst}
use Prim.Native.Nat.{ℕ, ◌+◌}
use native.Mathlib.Omega.{arith}
use lib.Dec.{eqb, ltb}
use lib.ListN.{length, length-map}
use borrow.Author.Tests.{eq-eqb, ne_eqb, eqb-true, eqb-false, lt-ltb, le-ltb, not-false}
use Rattle.words.specs.Block.{Bytes}
use Rattle.std.specs.Prelude.{Ok}
use Rattle.answers.specs.Answers.{Check, clear, line, line_at, checked, judged}
use Rattle.answers.specs.declared.Ground.TheVariants.{KeyLength, SaleNumbers, TagDiffers, StoreFull}
use Rattle.answers.proofs.Values.{line_clear, line_at-clear, judged-done}
use Rattle.cells.specs.Chains.{count, some, first}
use Rattle.cells.specs.Cells.{cells, first_free, kind_of, body_of, sales, free, length_fits, formed, named, present, cell_named, cell_before}
use Rattle.cells.specs.Changes.{fresh, filled, emptied}
use Rattle.cells.proofs.Cells.{body-length}
use Rattle.cells.proofs.Chains.{In, others, first-in, others-in}
use Rattle.cells.proofs.Form.{Form, form_of, of-form, size_of, sales-are, long_of, in-cases, none_in, in-none}
use Rattle.cells.proofs.FirstFault.{check-formed, formed-check, length-clear}
use Rattle.cells.proofs.Filled.{filled-form, filled-new, filled-others}
use Rattle.cells.proofs.Emptied.{emptied-form, emptied-others}
use Rattle.cells.proofs.Fresh.{fresh-form}
use Rattle.sales.specs.declared.Sale.{Sale}
use Rattle.sales.specs.Sale.{Detail, StoredSale, Fits, body_for, stored_as, opens, sale_in}
use Rattle.sales.specs.Sale.Detail.{clock, listed}
use Rattle.sales.proofs.Bodies.{body-long, body-opens, body-sale}
use Rattle.entries.specs.Entries.{opens_at, shut_at, sale_at, sales_in, cash}
use Rattle.store.specs.Store.{form_checks, key_checks, format_checks, take_checks, cancel_checks, total_checks, read_checks, take_call, cancel_call, total_call, read_part, handed, priced_by, amount_and_price, look_up_call}
use Rattle.ledger.specs.Book.{is_named, found, without, coins, amount_back, both_of, both_told, cell_taken}
use Rattle.ledger.specs.Conserved.{held_in}
use Rattle.ledger.proofs.Sales.{map-ext, without-map, found_map, cash-coins}

-- ---- checks

-- key and form are right: the next checks decide
keys-next : (key s : List ℕ) (next : Check) → length key ≡ 32 → formed s ≡ true → key_checks key s next ≡ next
unfolding key_checks form_checks line line_at
keys-next key s next k f = rw (eq-eqb (length key) 32 k, formed-check s next f)

keys-clear : (key s : List ℕ) (next : Check) → key_checks key s next ≡ clear → (formed s ≡ true) × (next ≡ clear)
unfolding key_checks form_checks
keys-clear key s next e =
    let a = line_clear _ KeyLength _ e in
    check-formed s next a.1

keys-long : (key s : List ℕ) (next : Check) → key_checks key s next ≡ clear → length key ≡ 32
unfolding key_checks
keys-long key s next e = eqb-true (length key) 32 (not-false _ (line_clear (not (eqb (length key) 32)) KeyLength _ e).0)

-- format's checks are clear: the length is as said
pub format-clear : (s : List ℕ) → format_checks s ≡ clear → length_fits s ≡ true
unfolding format_checks
format-clear s e = length-clear s e

-- take's checks are clear: some cell is free
pub take-clear : (key : List ℕ) (x : Sale) (s : List ℕ) → take_checks key x s ≡ clear → first_free s ≡ 0 → ⊥
unfolding take_checks
take-clear key x s e =
    let a = keys-clear key s _ e in
    let b = line_clear _ SaleNumbers _ a.1 in
    eqb-false (first_free s) 0 (line_clear (eqb (first_free s) 0) StoreFull clear b.1).0

-- cancel's checks are clear: the sale is there
pub cancel-clear : (key : List ℕ) (machine sale : ℕ) (s : List ℕ) → cancel_checks key machine sale s ≡ clear → present machine sale s ≡ true
unfolding cancel_checks
cancel-clear key machine sale s e =
    let a = keys-clear key s _ e in
    not-false (present machine sale s) (line_clear _ SaleNumbers _ a.1).0

-- ---- sound stores

-- the form is as said, and every sale opens
pub record Sound (key s : List ℕ) : Type 0 where
  pub form : formed s ≡ true
  pub all-open : (c : ℕ) → In c (sales s) → opens_at key s c ≡ true

module _ (key : List ℕ) where
  sound-of : (s cs fs : List ℕ) → Form s cs fs → ((c : ℕ) → In c cs → opens_at key s c ≡ true) → Sound key s
  sound-of s cs fs f o = record { form = of-form s cs fs f; all-open = rw (sales-are s cs fs f) o }

  sales-of : (s cs fs : List ℕ) → Form s cs fs → sales_in key s ≡ map (sale_at key s) cs
  unfolding sales_in
  sales-of s cs fs f = ap (map (sale_at key s)) (sales-are s cs fs f)

  -- ---- total

  shut_open : (s : List ℕ) (c : ℕ) → opens_at key s c ≡ true → shut_at key s c ≡ false
  unfolding shut_at
  shut_open s c e = rw e

  open-shut : (s : List ℕ) (c : ℕ) → shut_at key s c ≡ false → opens_at key s c ≡ true
  unfolding shut_at
  open-shut s c e = not-false (opens_at key s c) e

  -- total gives the coin amounts of the sales of a sound store
  pub total-sound : (s : List ℕ) → length key ≡ 32 → Sound key s → total_call key s ≡ Ok (coins (sales_in key s))
  unfolding total_call total_checks line_at judged
  total-sound s k h =
      let next = line_at (some (shut_at key s) (sales s)) TagDiffers (first (shut_at key s) (sales s)) clear in
      rw (keys-next key s next k h.form, in-none (shut_at key s) (sales s) (λ c i. shut_open s c (h.all-open c i)), cash-coins (sales_in key s))

  -- and accepts no other store, and no key of another length
  pub total-accepts : (s : List ℕ) (first : ℕ) → total_call key s ≡ Ok first → Sound key s × (coins (sales_in key s) ≡ first) × (length key ≡ 32)
  unfolding total_call total_checks
  total-accepts s first e =
      let j = judged-done _ (cash (sales_in key s)) first e in
      let a = keys-clear key s _ j.0 in
      let n = (line_at-clear (some (shut_at key s) (sales s)) TagDiffers _ clear a.1).0 in
      (record { form = a.0; all-open = λ c i. open-shut s c (none_in (shut_at key s) (sales s) n c i) }, sym (cash-coins (sales_in key s)) ∙ j.1, keys-long key s _ j.0)

  -- ---- format

  -- a sound store with no sale
  pub fresh-sound : (s : List ℕ) → length_fits s ≡ true → Sound key (fresh (cells s)) × (sales_in key (fresh (cells s)) ≡ [])
  fresh-sound s e =
      let l = long_of s e in
      let f = fresh-form (cells s) (omega (arith, l.least, l.whole)) (omega (arith, l.most, l.whole)) in
      (sound-of (fresh (cells s)) [] _ f (λ c i. absurd (unfold count in omega arith)), sales-of (fresh (cells s)) [] _ f)

  -- ---- take

  module _ (x : Sale) (b : Bytes key) (w : Fits x) (s : List ℕ) (h : Sound key s) where
    out : List ℕ
    out = filled (body_for key x) s

    full : length (body_for key x) ≡ 61
    full = body-long key x w

    opens-now : (fs : List ℕ) → Form s (sales s) (first_free s ∷ fs) → (c : ℕ) → In c (first_free s ∷ sales s) → opens_at key out c ≡ true
    unfolding opens_at out
    opens-now fs f c i = elim (in-cases (first_free s) c (sales s) i) [
      | inl z ↦ rw (← z) (ap (opens key) (filled-new (body_for key x) s (sales s) fs full f).1 ∙ body-opens key x b w)
      | inr j ↦ ap (opens key) (filled-others (body_for key x) s (sales s) fs full f c j).1 ∙ h.all-open c j
    ]

    sales-now : (fs : List ℕ) → Form s (sales s) (first_free s ∷ fs) → map (sale_at key out) (first_free s ∷ sales s) ≡ stored_as x ∷ sales_in key s
    unfolding sales_in sale_at out
    sales-now fs f =
        let new = filled-new (body_for key x) s (sales s) fs full f in
        ap₂ (λ (y : StoredSale) (l : List StoredSale). y ∷ l) (ap₂ (sale_in key) new.0 new.1 ∙ body-sale key x b w)
        (map-ext (sale_at key out) (sale_at key s) (sales s) (λ c i. let o = filled-others (body_for key x) s (sales s) fs full f c i in ap₂ (sale_in key) o.0 o.1))

    -- a sound store with that sale in front
    pub filled-sound : (first_free s ≡ 0 → ⊥) → Sound key (filled (body_for key x) s) × (sales_in key (filled (body_for key x) s) ≡ stored_as x ∷ sales_in key s)
    unfolding out
    filled-sound n = go (free s) (form_of s h.form)
      where
        go : (fs : List ℕ) → Form s (sales s) fs → Sound key out × (sales_in key out ≡ stored_as x ∷ sales_in key s)
        go [] f = absurd (n f.spare)
        go (c ∷ fs) f =
            let g : Form s (sales s) (first_free s ∷ fs) = subst (λ (y : ℕ). Form s (sales s) (y ∷ fs)) (sym f.spare.0) f in
            let f' = filled-form (body_for key x) s (sales s) fs full g in
            (sound-of out (first_free s ∷ sales s) fs f' (opens-now fs g), sales-of out (first_free s ∷ sales s) fs f' ∙ sales-now fs g)

  -- ---- cancel, look-up and read

  -- the ledger and the store tell a sale's amount and price alike
  both_by : (amount : ℕ) (d : Detail) → priced_by amount d ≡ both_of amount d
  unfolding priced_by both_of
  both_by amount (listed price day) = refl
  both_by amount (clock bytes) = refl

  both-same : (x : StoredSale) → amount_and_price x ≡ both_of x.amount x.detail
  unfolding amount_and_price
  both-same x = both_by x.amount x.detail

  held-long : (kind : ℕ) (body : List ℕ) → length body ≡ 61 → held_in key kind body ≡ sale_in key kind body ∷ []
  unfolding held_in
  held-long kind [] e = absurd (omega (arith, e))
  held-long kind (x ∷ l) e = refl

  module _ (machine sale : ℕ) (s : List ℕ) (h : Sound key s) where
    same : (c : ℕ) → named machine sale s c ≡ is_named machine sale (sale_at key s c)
    unfolding named is_named sale_at sale_in
    same c = refl

    -- a sound store without the first sale of these numbers
    pub emptied-sound : present machine sale s ≡ true → Sound key (emptied (cell_before machine sale s) (cell_named machine sale s) s)
        × (sales_in key (emptied (cell_before machine sale s) (cell_named machine sale s) s) ≡ without machine sale (sales_in key s))
    unfolding present cell_before cell_named
    emptied-sound y =
        let test = named machine sale s in
        let cs = sales s in
        let out = emptied (cell_before machine sale s) (cell_named machine sale s) s in
        let f = form_of s h.form in
        let f' = emptied-form test s cs (free s) f y in
        let kept = emptied-others test s cs (free s) f y in (
          sound-of out (others test cs) _ f' (λ c i. unfold opens_at in ap (opens key) (kept c i).1 ∙ h.all-open c (others-in test cs y c i)),
          sales-of out (others test cs) _ f' ∙ map-ext (sale_at key out) (sale_at key s) (others test cs) (λ c i. unfold sale_at in ap₂ (sale_in key) (kept c i).0 (kept c i).1)
              ∙ sym (unfold sales_in in without-map machine sale (sale_at key s) test same cs),
        )

    named_in : present machine sale s ≡ true → In (cell_named machine sale s) (sales s)
    unfolding present cell_named
    named_in y = first-in (named machine sale s) (sales s) y

    -- what cancel answers once key and form are right
    answers_by : (t : Bool) → present machine sale s ≡ t → (r : List ℕ)
        → (checked (line (not (present machine sale s)) SaleNumbers (line_at (shut_at key s (cell_named machine sale s)) TagDiffers (cell_named machine sale s) clear)) s
        (Ok (sale_at key s (cell_named machine sale s)).amount, r)).0
        ≡ amount_back (cond t (sale_at key s (cell_named machine sale s) ∷ []) [])
    unfolding line line_at checked amount_back
    answers_by true e r = rw (e, shut_open s (cell_named machine sale s) (h.all-open (cell_named machine sale s) (named_in e))) refl
    answers_by false e r = rw e

    sale-found : found machine sale (sales_in key s) ≡ cond (present machine sale s) (sale_at key s (cell_named machine sale s) ∷ []) []
    unfolding sales_in present cell_named
    sale-found = found_map machine sale (sale_at key s) (named machine sale s) same (sales s)

    -- cancel answers the amount of the sale that stands first under these numbers, or 16
    pub cancel-answers : length key ≡ 32 → (cancel_call key machine sale s).0 ≡ amount_back (found machine sale (sales_in key s))
    unfolding cancel_call cancel_checks
    cancel-answers k =
        let c = cell_named machine sale s in
        let next = line (not (present machine sale s)) SaleNumbers (line_at (shut_at key s c) TagDiffers c clear) in
        rw (keys-next key s next k h.form, sale-found) (answers_by (present machine sale s) refl _)

    -- what a look-up answers once key and form are right
    looks-by : (t : Bool) → present machine sale s ≡ t
        → judged (line (not (present machine sale s)) SaleNumbers (line_at (shut_at key s (cell_named machine sale s)) TagDiffers (cell_named machine sale s) clear))
        (Ok (amount_and_price (sale_at key s (cell_named machine sale s))))
        ≡ both_told (cond t (sale_at key s (cell_named machine sale s) ∷ []) [])
    unfolding line line_at judged both_told
    looks-by true e = rw (e, shut_open s (cell_named machine sale s) (h.all-open (cell_named machine sale s) (named_in e))) (ap Ok (both-same (sale_at key s (cell_named machine sale s))))
    looks-by false e = rw e

    -- a look-up answers amount and price of the sale that stands first under these numbers, or 16
    pub look-up-answers : length key ≡ 32 → look_up_call key machine sale s ≡ both_told (found machine sale (sales_in key s))
    unfolding look_up_call cancel_checks
    look-up-answers k =
        let c = cell_named machine sale s in
        let next = line (not (present machine sale s)) SaleNumbers (line_at (shut_at key s c) TagDiffers c clear) in
        rw (keys-next key s next k h.form, sale-found) (looks-by (present machine sale s) refl)

    -- the part that read hands out once the form is right
    part-holds : (t : Bool) → present machine sale s ≡ t
        → held_in key (kind_of s (cell_named machine sale s)) (handed (line (not t) SaleNumbers clear) (body_of s (cell_named machine sale s))) ≡ cond t (sale_at key s (cell_named machine sale s) ∷ []) []
    unfolding line line_at handed held_in sale_at
    part-holds true e =
        let c = cell_named machine sale s in
        held-long (kind_of s c) (body_of s c) (body-length s c ((form_of s h.form).sold-here c (named_in e)))
    part-holds false e = refl

    -- read hands out the sale that stands first under these numbers, or none
    pub read-holds : held_in key (kind_of s (cell_named machine sale s)) (read_part machine sale s) ≡ found machine sale (sales_in key s)
    unfolding read_part read_checks form_checks line line_at
    read-holds = rw (formed-check s _ h.form, sale-found) (part-holds (present machine sale s) refl)

  -- ---- what take answers

  -- no cell is free exactly where the sales leave none
  cells_left : (s : List ℕ) → Sound key s → eqb (first_free s) 0 ≡ not (ltb (length (sales_in key s) + 1) (cells s))
  unfolding sales_in
  cells_left s h = rw (length-map (sales s) (sale_at key s)) (go (free s) (form_of s h.form))
    where
      go : (fs : List ℕ) → Form s (sales s) fs → eqb (first_free s) 0 ≡ not (ltb (length (sales s) + 1) (cells s))
      go [] f = rw (eq-eqb (first_free s) 0 f.spare, le-ltb (length (sales s) + 1) (cells s) (omega (arith, size_of s (sales s) [] f)))
      go (c ∷ fs) f =
          rw (ne_eqb (first_free s) 0 (λ z. omega (arith, f.spare.0, f.spare.1)), lt-ltb (length (sales s) + 1) (cells s) (omega (arith, size_of s (sales s) (c ∷ fs) f)))

  taken-by : (t left : Bool) (y : StoredSale) (c : ℕ) (s r : List ℕ)
      → (checked (line t SaleNumbers (line (not left) StoreFull clear)) s (Ok c, r)).0 ≡ cell_taken (cond t (y ∷ []) []) left c
  unfolding line line_at checked cell_taken
  taken-by true left y c s r = refl
  taken-by false true y c s r = refl
  taken-by false false y c s r = refl

  -- take answers the first free cell, or 16, or 15
  pub take-answers : (x : Sale) (s : List ℕ) → Sound key s → length key ≡ 32
      → (take_call key x s).0 ≡ cell_taken (found x.machine x.sale (sales_in key s)) (ltb (length (sales_in key s) + 1) (cells s)) (first_free s)
  unfolding take_call take_checks
  take-answers x s h k =
      let next = line (present x.machine x.sale s) SaleNumbers (line (eqb (first_free s) 0) StoreFull clear) in
      rw (keys-next key s next k h.form, sale-found x.machine x.sale s h, cells_left s h) (taken-by (present x.machine x.sale s) _ _ (first_free s) s _)
