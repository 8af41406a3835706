-- The ledger kept beside the store, call by call: the store is sound, holds the sales that stand, and the ledger balances. Assumes nothing.
use mathlib.Core.Bool.{true}
use mathlib.Core.List.{List, [], ◌∷◌}
use mathlib.Core.Path.{◌≡◌, refl, ap, ◌∙◌}
use Prim.Native.Nat.{ℕ, ◌+◌}
use native.Mathlib.Omega.{arith}
use Rattle.words.specs.Block.{Bytes}
use Rattle.std.specs.Prelude.{Ok, Err}
use Rattle.answers.specs.Answers.{Check, clear, Answer, checked}
use Rattle.cells.specs.Cells.{cells, first_free, length_fits, present, cell_named, cell_before}
use Rattle.cells.specs.Changes.{fresh, filled, emptied}
use Rattle.sales.specs.declared.Sale.{Sale}
use Rattle.sales.specs.Sale.{StoredSale, stored_as, Fits, body_for}
use Rattle.entries.specs.Entries.{sales_in}
use Rattle.store.specs.Store.{format_checks, take_checks, cancel_checks, format_call, take_call, cancel_call, total_call, read_offset, look_up_call, kind_told}
use Rattle.ledger.specs.Book.{Call, Book, found, without, coins, new_book, book_take, book_cancel, entered, AllFit}
use Rattle.ledger.specs.Book.Call.{format, take, cancel, total, read, look_up}
use Rattle.ledger.specs.Conserved.{called, store_after, kept}
use Rattle.ledger.proofs.Sales.{coins-append, coins-parted}
use Rattle.ledger.proofs.Sound.{Sound, take-clear, cancel-clear, format-clear, fresh-sound, filled-sound, emptied-sound}

-- ---- the ledger balances

abbrev pub Balanced : Book → Type 0
Balanced b = coins b.standing + coins b.cancelled ≡ b.first + coins b.taken

balanced-new : (first : ℕ) (l : List StoredSale) → coins l ≡ first → Balanced (new_book first l)
unfolding new_book coins
balanced-new first l e = omega arith

balanced-take : (x : Sale) (b : Book) → Balanced b → Balanced (book_take x b)
unfolding book_take coins
balanced-take x b e = omega arith

balanced-cancel : (machine sale : ℕ) (b : Book) → Balanced b → Balanced (book_cancel machine sale b)
unfolding book_cancel
balanced-cancel machine sale b e =
    omega (arith, coins-parted machine sale b.standing, coins-append (found machine sale b.standing) b.cancelled)

-- ---- store and ledger

pub record Kept (key s : List ℕ) (b : Book) : Type 0 where
  pub sound : Sound key s
  pub stands : sales_in key s ≡ b.standing
  pub balanced : Balanced b

module _ (key : List ℕ) where
  -- a new ledger
  pub kept_new : (s : List ℕ) (first : ℕ) (l : List StoredSale) → Sound key s → sales_in key s ≡ l → coins l ≡ first → Kept key s (new_book first l)
  unfolding new_book
  kept_new s first l h e f = record { sound = h; stands = e; balanced = balanced-new first l f }

  -- the ledger of a store just formatted
  pub kept-format : (s : List ℕ) → length_fits s ≡ true → Kept key (fresh (cells s)) (new_book 0 [])
  kept-format s e = let h = fresh-sound key s e in kept_new (fresh (cells s)) 0 [] h.0 h.1 (unfold coins in refl)

  kept-take : (x : Sale) → Bytes key → Fits x → (s : List ℕ) (b : Book) → Kept key s b → (first_free s ≡ 0 → ⊥) → Kept key (filled (body_for key x) s) (book_take x b)
  unfolding book_take
  kept-take x k w s b i n =
      let h = filled-sound key x k w s i.sound n in
      record { sound = h.0; stands = h.1 ∙ ap (λ (l : List StoredSale). stored_as x ∷ l) i.stands; balanced = balanced-take x b i.balanced }

  kept-cancel : (machine sale : ℕ) (s : List ℕ) (b : Book) → Kept key s b → present machine sale s ≡ true
      → Kept key (emptied (cell_before machine sale s) (cell_named machine sale s) s) (book_cancel machine sale b)
  unfolding book_cancel
  kept-cancel machine sale s b i y =
      let h = emptied-sound key machine sale s i.sound y in
      record { sound = h.0; stands = h.1 ∙ ap (without machine sale) i.stands; balanced = balanced-cancel machine sale b i.balanced }

  -- ---- one call, and a history

  -- a refused call leaves both as they are
  by-checks : (call : Call) (c : Check) (v : ℕ) (s t : List ℕ) (b : Book) → Kept key s b → (c ≡ clear → Kept key t (entered call (Ok v) b))
      → Kept key (checked c s (Ok v, t)).1 (entered call (checked c s (Ok v, t)).0 b)
  unfolding checked entered
  by-checks call (Ok none) v s t b i h = h refl
  by-checks call (Err found) v s t b i h = i

  -- a call that the ledger passes over leaves both, whatever it answers
  by-reading : (call : Call) → ((v : ℕ) (b : Book) → entered call (Ok v) b ≡ b) → (a : Answer) (s : List ℕ) (b : Book) → Kept key s b → Kept key s (entered call a b)
  unfolding entered
  by-reading call e (Ok v) s b i = rw (e v b) i
  by-reading call e (Err found) s b i = i

  module _ (k : Bytes key) where
    step : (call : Call) (calls : List Call) → AllFit (call ∷ calls) → (s : List ℕ) (b : Book) → Kept key s b
        → Kept key (called key call s).1 (entered call (called key call s).0 b) × AllFit calls
    unfolding called format_call take_call cancel_call entered
    step format calls w s b i = (by-checks format (format_checks s) 0 s _ b i (λ e. kept-format s (format-clear s e)), w)
    step (take x) calls w s b i =
        (by-checks (take x) (take_checks key x s) (first_free s) s _ b i (λ e. kept-take x k w.0 s b i (take-clear key x s e)), w.1)
    step (cancel machine sale) calls w s b i =
        (by-checks (cancel machine sale) (cancel_checks key machine sale s) _ s _ b i (λ e. kept-cancel machine sale s b i (cancel-clear key machine sale s e)), w)
    step total calls w s b i = (by-reading total (λ v b. refl) (total_call key s) s b i, w)
    step (read machine sale) calls w s b i = (by-reading (read machine sale) (λ v b. refl) (read_offset machine sale s) s b i, w)
    step (look_up machine sale) calls w s b i = (by-reading (look_up machine sale) (λ v b. refl) (kind_told (look_up_call key machine sale s)) s b i, w)

    -- after any history
    pub kept-after : (calls : List Call) → AllFit calls → (s : List ℕ) (b : Book) → Kept key s b → Kept key (store_after key calls s) (kept key calls s b)
    unfolding store_after kept
    kept-after [] w s b i = i
    kept-after (call ∷ calls) w s b i = let h = step call calls w s b i in kept-after calls h.1 (called key call s).1 (entered call (called key call s).0 b) h.0
