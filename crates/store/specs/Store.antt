-- The store's calls: format, take, cancel, total, read and look-up (document 02, cards 1, 7 and 8). Assumes nothing.
use Rattle.std.specs.Prelude.{not, List, [], ℕ, ◌+◌, ◌*◌, eqb, length, Result, Ok, Err, Option, Some, None}
use Rattle.answers.specs.declared.Refusal.{Refusal}
use Rattle.answers.specs.Answers.{Check, clear, Answer, code_of, line, line_at, checked, judged}
use Rattle.answers.specs.declared.Ground.TheVariants.{KeyLength, TagDiffers, StoreFull, SaleNumbers}
use Rattle.cells.specs.Chains.{some, first}
use Rattle.cells.specs.Cells.{cells, first_free, body_of, sales, unpriced, priced, present, cell_named, cell_before}
use Rattle.cells.specs.Faults.{sound, length_or, fault_of, fault_check}
use Rattle.cells.specs.Changes.{fresh, filled, emptied}
use Rattle.sales.specs.declared.Sale.{Sale}
use Rattle.sales.specs.Sale.{body_for, Detail, StoredSale}
use Rattle.sales.specs.Sale.Detail.{clock, listed}
use Rattle.entries.specs.Entries.{shut_at, sale_at, sales_in, cash}
use Rattle.store.specs.declared.LookUp.{LookUp}

-- ---- checks

-- what is broken in the store, 18, 19 or 20; then the checks behind it
unfoldable pub form_checks : List ℕ → Check → Check
form_checks s next = fault_check (fault_of s) next

-- where a key is taken, 3 first
unfoldable pub key_checks : List ℕ → List ℕ → Check → Check
key_checks key s next = line (not (eqb (length key) 32)) KeyLength (form_checks s next)

-- format checks the length only, 18
unfoldable pub format_checks : List ℕ → Check
format_checks s = fault_check (length_or s sound) clear

-- take: 16 where the machine and sale number are already present, then 15 where no cell is free
unfoldable pub take_checks : List ℕ → Sale → List ℕ → Check
take_checks key x s = key_checks key s (line (present x.machine x.sale s) SaleNumbers (line (eqb (first_free s) 0) StoreFull clear))

-- cancel and look-up: 16 where machine and sale number are absent, then 9 with its cell where the sale won't open
unfoldable pub cancel_checks : List ℕ → ℕ → ℕ → List ℕ → Check
cancel_checks key machine sale s =
    let c = cell_named machine sale s in
    key_checks key s (line (not (present machine sale s)) SaleNumbers (line_at (shut_at key s c) TagDiffers c clear))

-- total: 9 with the cell of the first sale in the chain that won't open
unfoldable pub total_checks : List ℕ → List ℕ → Check
total_checks key s = key_checks key s (line_at (some (shut_at key s) (sales s)) TagDiffers (first (shut_at key s) (sales s)) clear)

-- read, which takes no key: 16 where machine and sale number are absent
unfoldable pub read_checks : ℕ → ℕ → List ℕ → Check
read_checks machine sale s = form_checks s (line (not (present machine sale s)) SaleNumbers clear)

-- ---- calls: the answer, and the store afterwards; a refused call changes no byte of it

-- format: all cells free, chained upward from 1; returns 0
unfoldable pub format_call : List ℕ → Answer × List ℕ
format_call s = checked (format_checks s) s (Ok 0, fresh (cells s))

-- take: the first free cell holds the sale, at the front; returns its cell
unfoldable pub take_call : List ℕ → Sale → List ℕ → Answer × List ℕ
take_call key x s = checked (take_checks key x s) s (Ok (first_free s), filled (body_for key x) s)

-- cancel: gives back the amount that was deducted, of a sale of either kind, "never the price"; the cell is zeroed behind its next index and first among the free
unfoldable pub cancel_call : List ℕ → ℕ → ℕ → List ℕ → Answer × List ℕ
cancel_call key machine sale s =
    let c = cell_named machine sale s in
    checked (cancel_checks key machine sale s) s (Ok (sale_at key s c).amount, emptied (cell_before machine sale s) c s)

-- total: the cash of all sales; the store is only read
unfoldable pub total_call : List ℕ → List ℕ → Answer
total_call key s = judged (total_checks key s) (Ok (cash (sales_in key s)))

-- what a call hands out that gives a part of the store: the part where its checks are clear, else an empty one
unfoldable pub handed : Check → List ℕ → List ℕ
handed (Ok none) part = part
handed (Err found) part = []

-- read: "A reader that names a sale receives its 61 bytes as a part of the store itself; where refused, an empty part"
unfoldable pub read_part : ℕ → ℕ → List ℕ → List ℕ
read_part machine sale s = handed (read_checks machine sale s) (body_of s (cell_named machine sale s))

-- read's second call: the number and place of the refusal, 0 and 0 where nothing is refused
unfoldable pub read_refusal : ℕ → ℕ → List ℕ → Answer
read_refusal machine sale s = judged (read_checks machine sale s) (Ok 0)

-- for C, which gets no part: the offset in the store at which that part begins, byte 3 of the sale's cell
unfoldable pub read_offset : ℕ → ℕ → List ℕ → Answer
read_offset machine sale s = judged (read_checks machine sale s) (Ok (64 * cell_named machine sale s + 3))

-- ---- look-up: only its answer, since the store is only read

-- "gives both, or for kind 1 the amount and a mark for no price, told apart from price 0": the mark is a case of its own, so that it differs from every price
unfoldable pub priced_by : ℕ → Detail → LookUp
priced_by amount (listed price day) = record { amount = amount; price = Some price }
priced_by amount (clock bytes) = record { amount = amount; price = None }

-- amount and price of a sale ("gives both")
unfoldable pub amount_and_price : StoredSale → LookUp
amount_and_price x = priced_by x.amount x.detail

-- "A look-up, checked as cancel and changing nothing": of the sale that is named
unfoldable pub look_up_call : List ℕ → ℕ → ℕ → List ℕ → Result LookUp Refusal
look_up_call key machine sale s = judged (cancel_checks key machine sale s) (Ok (amount_and_price (sale_at key s (cell_named machine sale s))))

-- the kind by the price: 2 with one and 1 without
abbrev pub kind_by : Option ℕ → ℕ
kind_by (Some price) = priced
kind_by None = unpriced

-- each case as an answer: on success the sale's kind as the value; else the refusal, with its number and place. From here on for C; no passage of documents 01 and 02
unfoldable pub kind_told : Result LookUp Refusal → Answer
kind_told (Ok told) = Ok (kind_by told.price)
kind_told (Err found) = Err found

-- what C's variable for the amount holds afterwards, by what it held before
unfoldable pub amount_told : Result LookUp Refusal → ℕ → ℕ
amount_told (Ok told) before = told.amount
amount_told (Err found) before = before

-- a price, or what stood in its place before
abbrev pub price_or : Option ℕ → ℕ → ℕ
price_or (Some price) before = price
price_or None before = before

-- and that for the price: unchanged where there is none, and where refused
unfoldable pub price_told : Result LookUp Refusal → ℕ → ℕ
price_told (Ok told) before = price_or told.price before
price_told (Err found) before = before

-- for C: the one number, and the two variables
unfoldable pub looked_up : Result LookUp Refusal → ℕ → ℕ → ℕ × (ℕ × ℕ)
looked_up r amount price = (code_of (kind_told r), (amount_told r amount, price_told r price))
