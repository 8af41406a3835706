-- The ledger of a store: what a history of calls says of it, by the calls' own arguments and by which were refused (document 02, cards 1 and 8). Assumes nothing.
use Rattle.std.specs.Prelude.{Bool, true, false, cond, ◌&&◌, List, [], ◌∷◌, ◌++◌, ℕ, ◌+◌, eqb, Result, Ok, Err, Some, None}
use Rattle.answers.specs.declared.Ground.TheVariants.{StoreFull, SaleNumbers}
use Rattle.answers.specs.declared.Refusal.{Refusal}
use Rattle.answers.specs.Refusals.{refusal}
use Rattle.answers.specs.Answers.{Answer}
use Rattle.sales.specs.declared.Sale.{Sale}
use Rattle.sales.specs.Sale.{Detail, StoredSale, stored_as, Fits}
use Rattle.sales.specs.Sale.Detail.{clock, listed}
use Rattle.store.specs.declared.LookUp.{LookUp}

-- ---- sales

-- the sale has this machine and sale number
unfoldable pub is_named : ℕ → ℕ → StoredSale → Bool
is_named machine sale x = eqb x.machine machine && eqb x.sale sale

-- the first sale of these numbers, alone; none where there is none
unfoldable pub found : ℕ → ℕ → List StoredSale → List StoredSale
found machine sale [] = []
found machine sale (x ∷ l) = cond (is_named machine sale x) (x ∷ []) (found machine sale l)

-- all but that one
unfoldable pub without : ℕ → ℕ → List StoredSale → List StoredSale
without machine sale [] = []
without machine sale (x ∷ l) = cond (is_named machine sale x) l (x ∷ without machine sale l)

-- coin amounts: the amounts of the sales paid in coin, means 1, added up, "of both kinds"
unfoldable pub coins : List StoredSale → ℕ
coins [] = 0
coins (x ∷ l) = cond (eqb x.means 1) x.amount 0 + coins l

-- ---- calls

-- one call of a history, with its arguments but for the key and the store
pub data Call : Type 0 where
  format : Call
  take : Sale → Call
  cancel : (machine sale : ℕ) → Call
  total : Call
  read : (machine sale : ℕ) → Call
  look_up : (machine sale : ℕ) → Call

-- each take's arguments have their widths
abbrev pub AllFit : List Call → Type 0
AllFit [] = Unit {0}
AllFit (format ∷ calls) = AllFit calls
AllFit (take x ∷ calls) = Fits x × AllFit calls
AllFit (cancel machine sale ∷ calls) = AllFit calls
AllFit (total ∷ calls) = AllFit calls
AllFit (read machine sale ∷ calls) = AllFit calls
AllFit (look_up machine sale ∷ calls) = AllFit calls

-- no call of the history is format
abbrev pub NoFormat : List Call → Type 0
NoFormat [] = Unit {0}
NoFormat (format ∷ calls) = ⊥
NoFormat (take x ∷ calls) = NoFormat calls
NoFormat (cancel machine sale ∷ calls) = NoFormat calls
NoFormat (total ∷ calls) = NoFormat calls
NoFormat (read machine sale ∷ calls) = NoFormat calls
NoFormat (look_up machine sale ∷ calls) = NoFormat calls

-- ---- the ledger

-- the figure that it begins with; the sales taken and cancelled since; and those that stand, of either kind with every field, in the order of the store's chain
pub record Book : Type 0 where
  pub first : ℕ
  pub taken : List StoredSale
  pub cancelled : List StoredSale
  pub standing : List StoredSale

-- a new one: nothing taken or cancelled yet
unfoldable pub new_book : ℕ → List StoredSale → Book
new_book first standing = record { first = first; taken = []; cancelled = []; standing = standing }

-- take puts its sale in front, of kind 2 with the price and the day that were handed in
unfoldable pub book_take : Sale → Book → Book
book_take x b = record { first = b.first; taken = stored_as x ∷ b.taken; cancelled = b.cancelled; standing = stored_as x ∷ b.standing }

-- cancel moves the first sale that stands under these numbers to the cancelled
unfoldable pub book_cancel : ℕ → ℕ → Book → Book
book_cancel machine sale b = record {
  first = b.first;
  taken = b.taken;
  cancelled = found machine sale b.standing ++ b.cancelled;
  standing = without machine sale b.standing;
}

-- the ledger after one call that was answered so: a refused call counts for nothing, format begins at 0 with no sale; total, read and look-up leave it
unfoldable pub entered : Call → Answer → Book → Book
entered call (Err found) b = b
entered format (Ok value) b = new_book 0 []
entered (take x) (Ok value) b = book_take x b
entered (cancel machine sale) (Ok value) b = book_cancel machine sale b
entered total (Ok value) b = b
entered (read machine sale) (Ok value) b = b
entered (look_up machine sale) (Ok value) b = b

-- what cancel has to answer, by the sale that it removes: the amount of this sale, never its price; 16 where there is none
unfoldable pub amount_back : List StoredSale → Answer
amount_back [] = Err (refusal SaleNumbers 0)
amount_back (x ∷ l) = Ok x.amount

-- what a look-up has to answer, by the amount and the last field of the sale that stands under its numbers (card 8: "gives both, or for kind 1 the amount and a mark for no price")
unfoldable pub both_of : ℕ → Detail → LookUp
both_of amount (listed price day) = record { amount = amount; price = Some price }
both_of amount (clock bytes) = record { amount = amount; price = None }

-- 16 where there is no such sale ("16 machine and sale number [..] absent")
unfoldable pub both_told : List StoredSale → Result LookUp Refusal
both_told [] = Err (refusal SaleNumbers 0)
both_told (x ∷ l) = Ok (both_of x.amount x.detail)

-- what take has to answer: 16 where a sale stands under its numbers, then 15 where no cell is left, else the cell given
unfoldable pub cell_taken : List StoredSale → Bool → ℕ → Answer
cell_taken (x ∷ l) left cell = Err (refusal SaleNumbers 0)
cell_taken [] false cell = Err (refusal StoreFull 0)
cell_taken [] true cell = Ok cell
