-- The conserved total, over whole histories of calls (document 02, card 8: "from any store that total accepts: until the next format, with that key and these calls only, total gives the first figure plus coin amounts taken less coin
-- amounts cancelled, of both kinds"; card 1: "From the last format on, with one key and these calls only, the cash total equals coin amounts taken less coin amounts cancelled"). Assumes nothing.
use Rattle.std.specs.Prelude.{true, List, [], ◌∷◌, ◌≡◌, ℕ, ◌+◌, ◌-◌, ◌≤◌, ltb, length, Ok, Err}
use Rattle.words.specs.Block.{Bytes}
use Rattle.answers.specs.declared.Ground.{Ground}
use Rattle.answers.specs.Refusals.{refusal}
use Rattle.answers.specs.Answers.{Answer}
use Rattle.cells.specs.Chains.{all}
use Rattle.cells.specs.Cells.{cells, first_free, kind_of, sales, length_fits, cell_named}
use Rattle.sales.specs.declared.Sale.{Sale}
use Rattle.sales.specs.Sale.{StoredSale, sale_in}
use Rattle.entries.specs.Entries.{opens_at, sales_in}
use Rattle.store.specs.Store.{format_call, take_call, cancel_call, total_call, read_part, read_offset, look_up_call, kind_told}
use Rattle.ledger.specs.Book.{Call, Book, found, coins, new_book, entered, amount_back, both_told, cell_taken, AllFit, NoFormat}
use Rattle.ledger.specs.Book.Call.{format, take, cancel, total, read, look_up}

module _ (key : List ℕ) where
  -- what a call answers and leaves in the store; total, read and look-up leave it as it is, read's answer is the offset that C gets, and look-up's the kind
  unfoldable pub called : Call → List ℕ → Answer × List ℕ
  called format s = format_call s
  called (take x) s = take_call key x s
  called (cancel machine sale) s = cancel_call key machine sale s
  called total s = (total_call key s, s)
  called (read machine sale) s = (read_offset machine sale s, s)
  called (look_up machine sale) s = (kind_told (look_up_call key machine sale s), s)

  -- the store after a history of calls
  unfoldable pub store_after : List Call → List ℕ → List ℕ
  store_after [] s = s
  store_after (call ∷ calls) s = store_after calls (called call s).1

  -- the ledger after them, each entered with its own answer
  unfoldable pub kept : List Call → List ℕ → Book → Book
  kept [] s b = b
  kept (call ∷ calls) s b = kept calls (called call s).1 (entered call (called call s).0 b)

  -- the sale that a part of the store holds, in a cell of this kind, alone; none in an empty part
  unfoldable pub held_in : ℕ → List ℕ → List StoredSale
  held_in kind [] = []
  held_in kind (x ∷ l) = sale_in key kind (x ∷ l) ∷ []

  -- store and ledger agree
  pub record Agrees (s : List ℕ) (b : Book) : Type 0 where
    -- the store holds the sales that stand in the ledger, with every field, and no others, in that order
    pub recorded : sales_in key s ≡ b.standing
    -- and each opens
    pub all-open : all (opens_at key s) (sales s) ≡ true
    -- total is not refused, and gives the first figure plus the coin amounts taken, less the coin amounts cancelled
    pub figure : total_call key s ≡ Ok ((b.first + coins b.taken) - coins b.cancelled)
    -- of which there are no more
    pub most : coins b.cancelled ≤ b.first + coins b.taken
    -- that is the coin amounts of the sales that stand: nothing else in the store counts
    pub standing-figure : total_call key s ≡ Ok (coins b.standing)
    -- cancel, of any numbers, answers the amount of the sale that it removes from the ledger, of either kind
    pub gives_back : (machine sale : ℕ) → (cancel_call key machine sale s).0 ≡ amount_back (found machine sale b.standing)
    -- take answers the first free cell, and is refused only where its numbers stand or where sales fill all cells but cell 0
    pub takes : (x : Sale) → (take_call key x s).0 ≡ cell_taken (found x.machine x.sale b.standing) (ltb (length b.standing + 1) (cells s)) (first_free s)
    -- look-up, of any numbers, answers amount and price of the sale that stands under them, for a sale taken since the beginning those that it was taken with; the amount and no price where that sale has a clock
    pub looks-up : (machine sale : ℕ) → look_up_call key machine sale s ≡ both_told (found machine sale b.standing)
    -- read, of any numbers, hands out the sale that stands under them, with every field, in a cell of its kind; an empty part where none does
    pub reads : (machine sale : ℕ) → held_in (kind_of s (cell_named machine sale s)) (read_part machine sale s) ≡ found machine sale b.standing

-- the conserved total; proved as conserved in proofs/Conserved
pub record Conserved : Type 0 where
  -- from any store that total accepts: the ledger begins with its figure and the sales that open there
  pub from-accepted : (key s : List ℕ) (first : ℕ) (calls : List Call) → Bytes key → AllFit calls
      → total_call key s ≡ Ok first → Agrees key (store_after key calls s) (kept key calls s (new_book first (sales_in key s)))
  -- format is refused for no store of a right length, whatever it held, and answers 0
  pub formats : (s : List ℕ) → length_fits s ≡ true → (format_call s).0 ≡ Ok 0
  -- from such a format on: the ledger begins at 0 with no sale
  pub from-format : (key s : List ℕ) (calls : List Call) → length key ≡ 32 → Bytes key → AllFit calls → length_fits s ≡ true
      → Agrees key (store_after key calls (format_call s).1) (kept key calls (format_call s).1 (new_book 0 []))
  -- "From the last format on, [..] the cash total equals coin amounts taken less coin amounts cancelled", of which there are no more:
  -- a later format among the calls begins the ledger anew
  pub since-format : (key s : List ℕ) (calls : List Call) → length key ≡ 32 → Bytes key → AllFit calls → length_fits s ≡ true
      → let b = kept key calls (format_call s).1 (new_book 0 []) in
      (total_call key (store_after key calls (format_call s).1) ≡ Ok (coins b.taken - coins b.cancelled)) × (coins b.cancelled ≤ coins b.taken)
  -- "from any store that total accepts: until the next format, [..] total gives the first figure plus coin amounts taken less coin amounts cancelled, of both kinds"
  pub until-format : (key s : List ℕ) (first : ℕ) (calls : List Call) → Bytes key → AllFit calls → NoFormat calls
      → total_call key s ≡ Ok first → let b = kept key calls s (new_book first (sales_in key s)) in
      (total_call key (store_after key calls s) ≡ Ok ((first + coins b.taken) - coins b.cancelled)) × (coins b.cancelled ≤ first + coins b.taken)
  -- a refused call "changes nothing": for every key and store and on every ground, no byte of the store
  pub refused-unchanged : (key s : List ℕ) (call : Call) (why : Ground) (place : ℕ) → (called key call s).0 ≡ Err (refusal why place) → (called key call s).1 ≡ s
