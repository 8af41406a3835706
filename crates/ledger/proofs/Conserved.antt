-- The conserved total, over whole histories of calls. Assumes nothing.
use mathlib.Core.Bool.{true, true≢false}
use mathlib.Core.List.{List, [], ◌∷◌}
use mathlib.Core.Path.{◌≡◌, refl, ap, ◌∙◌}
use Prim.Native.Nat.{ℕ, ◌+◌, ◌-◌, ◌≤◌}
use native.Mathlib.Omega.{arith}
use lib.ListN.{length}
use Rattle.words.specs.Block.{Bytes}
use Rattle.std.specs.Prelude.{Ok, Err}
use Rattle.answers.specs.declared.Refusal.{Refusal}
use Rattle.answers.specs.Refusals.{refusal}
use Rattle.answers.specs.Answers.{Check, Answer, checked}
use Rattle.answers.proofs.Values.{is_done, checked-unchanged}
use Rattle.cells.specs.Cells.{first_free, sales, length_fits}
use Rattle.cells.specs.Faults.{length_or, fault_check}
use Rattle.cells.proofs.Form.{in_all}
use Rattle.sales.specs.Sale.{StoredSale}
use Rattle.entries.specs.Entries.{opens_at, sales_in}
use Rattle.store.specs.Store.{format_checks, take_checks, cancel_checks, format_call, take_call, cancel_call, total_call}
use Rattle.ledger.specs.Book.{Call, Book, found, coins, new_book, book_take, book_cancel, entered, amount_back, both_told, AllFit, NoFormat}
use Rattle.ledger.specs.Book.Call.{format, take, cancel, total, read, look_up}
use Rattle.ledger.specs.Conserved.{called, store_after, kept, Agrees, Conserved}
use Rattle.ledger.proofs.Sound.{total-sound, total-accepts, cancel-answers, look-up-answers, read-holds, take-answers}
use Rattle.ledger.proofs.Kept.{Kept, kept_new, kept-format, kept-after}

-- ---- store and ledger agree

agrees : (key s : List ℕ) (b : Book) → length key ≡ 32 → Kept key s b → Agrees key s b
agrees key s b k i = record {
  recorded = i.stands;
  all-open = in_all (opens_at key s) (sales s) i.sound.all-open;
  figure = total-sound key s k i.sound ∙ ap Ok (ap coins i.stands ∙ omega (arith, i.balanced));
  most = omega (arith, i.balanced);
  standing-figure = total-sound key s k i.sound ∙ ap (λ (l : List StoredSale). Ok (coins l)) i.stands;
  gives_back = λ machine sale. cancel-answers key machine sale s i.sound k ∙ ap (λ (l : List StoredSale). amount_back (found machine sale l)) i.stands;
  takes = λ x. rw (← i.stands) (take-answers key x s i.sound k);
  looks-up = λ machine sale. look-up-answers key machine sale s i.sound k ∙ ap (λ (l : List StoredSale). both_told (found machine sale l)) i.stands;
  reads = λ machine sale. read-holds key machine sale s i.sound ∙ ap (found machine sale) i.stands;
}

-- a store of a right length, formatted
formatted : (key s : List ℕ) → length_fits s ≡ true → Kept key (format_call s).1 (new_book 0 [])
unfolding format_call format_checks length_or fault_check checked
formatted key s e = rw e (kept-format key s e)

formats : (s : List ℕ) → length_fits s ≡ true → (format_call s).0 ≡ Ok 0
unfolding format_call format_checks length_or fault_check checked
formats s e = rw e

-- ---- refused calls

-- a call that is done where its checks are clear
done-unchanged : (c : Check) (v : ℕ) (s t : List ℕ) (why : Refusal) → (checked c s (Ok v, t)).0 ≡ Err why → (checked c s (Ok v, t)).1 ≡ s
done-unchanged c v s t why e = checked-unchanged c s (Ok v, t) why (λ q. absurd (true≢false (ap is_done q))) e

unchanged : (key s : List ℕ) (call : Call) (why : Refusal) → (called key call s).0 ≡ Err why → (called key call s).1 ≡ s
unfolding called format_call take_call cancel_call
unchanged key s format why e = done-unchanged (format_checks s) 0 s _ why e
unchanged key s (take x) why e = done-unchanged (take_checks key x s) (first_free s) s _ why e
unchanged key s (cancel machine sale) why e = done-unchanged (cancel_checks key machine sale s) _ s _ why e
unchanged key s total why e = refl
unchanged key s (read machine sale) why e = refl
unchanged key s (look_up machine sale) why e = refl

-- ---- the first figure

-- no call but format changes it
stays : (call : Call) (calls : List Call) → NoFormat (call ∷ calls) → (a : Answer) (b : Book) → ((entered call a b).first ≡ b.first) × NoFormat calls
unfolding entered book_take book_cancel
stays format calls w a b = absurd w
stays (take x) calls w (Ok v) b = (refl, w)
stays (take x) calls w (Err found) b = (refl, w)
stays (cancel machine sale) calls w (Ok v) b = (refl, w)
stays (cancel machine sale) calls w (Err found) b = (refl, w)
stays total calls w (Ok v) b = (refl, w)
stays total calls w (Err found) b = (refl, w)
stays (read machine sale) calls w (Ok v) b = (refl, w)
stays (read machine sale) calls w (Err found) b = (refl, w)
stays (look_up machine sale) calls w (Ok v) b = (refl, w)
stays (look_up machine sale) calls w (Err found) b = (refl, w)

until : (key s : List ℕ) (b : Book) (calls : List Call) → NoFormat calls → (kept key calls s b).first ≡ b.first
unfolding kept
until key s b [] w = refl
until key s b (call ∷ calls) w =
    let h = stays call calls w (called key call s).0 b in
    until key (called key call s).1 (entered call (called key call s).0 b) calls h.1 ∙ h.0

-- and format makes it 0
zero-stays : (call : Call) (a : Answer) (b : Book) → b.first ≡ 0 → (entered call a b).first ≡ 0
unfolding entered new_book book_take book_cancel
zero-stays call (Err found) b e = e
zero-stays format (Ok v) b e = refl
zero-stays (take x) (Ok v) b e = e
zero-stays (cancel machine sale) (Ok v) b e = e
zero-stays total (Ok v) b e = e
zero-stays (read machine sale) (Ok v) b e = e
zero-stays (look_up machine sale) (Ok v) b e = e

zero-kept : (key s : List ℕ) (b : Book) (calls : List Call) → b.first ≡ 0 → (kept key calls s b).first ≡ 0
unfolding kept
zero-kept key s b [] e = e
zero-kept key s b (call ∷ calls) e =
    zero-kept key (called key call s).1 (entered call (called key call s).0 b) calls (zero-stays call (called key call s).0 b e)

-- ---- the promise

module _ (key : List ℕ) (calls : List Call) (bytes : Bytes key) (w : AllFit calls) where
  accepted : (s : List ℕ) (first : ℕ) → total_call key s ≡ Ok first → Agrees key (store_after key calls s) (kept key calls s (new_book first (sales_in key s)))
  accepted s first e =
      let h = total-accepts key s first e in
      agrees key (store_after key calls s) _ h.2 (kept-after key bytes calls w s (new_book first (sales_in key s)) (kept_new key s first (sales_in key s) h.0 refl h.1))

  after-format : (s : List ℕ) → length key ≡ 32 → length_fits s ≡ true → Agrees key (store_after key calls (format_call s).1) (kept key calls (format_call s).1 (new_book 0 []))
  after-format s k e = agrees key (store_after key calls (format_call s).1) _ k (kept-after key bytes calls w (format_call s).1 (new_book 0 []) (formatted key s e))

-- the figure of a ledger whose first figure is known
figures : (key s : List ℕ) (b : Book) (first : ℕ) → b.first ≡ first → Agrees key s b
    → (total_call key s ≡ Ok ((first + coins b.taken) - coins b.cancelled)) × (coins b.cancelled ≤ first + coins b.taken)
figures key s b first e a = rw (← e) (a.figure, a.most)

pub conserved : Conserved
conserved = record {
  from-accepted = λ key s first calls bytes w e. accepted key calls bytes w s first e;
  formats = formats;
  from-format = λ key s calls k bytes w e. after-format key calls bytes w s k e;
  since-format = λ key s calls k bytes w e.
      let h = figures key _ _ 0 (zero-kept key (format_call s).1 (new_book 0 []) calls (unfold new_book in refl)) (after-format key calls bytes w s k e) in
      (h.0 ∙ ap Ok (omega arith), omega (arith, h.1));
  until-format = λ key s first calls bytes w n e.
      figures key _ _ first (until key s (new_book first (sales_in key s)) calls n ∙ (unfold new_book in refl)) (accepted key calls bytes w s first e);
  refused-unchanged = λ key s call why place. unchanged key s call (refusal why place);
}
