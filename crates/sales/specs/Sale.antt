-- A sale: its nonce, its record, and the 61 bytes in which the store holds them sealed (document 02, cards 1 and 8). Assumes nothing.
use Rattle.std.specs.Prelude.{◌≡◌, Bool, cond, List, [], ◌++◌, ℕ, ◌^◌, ◌<◌, eqb, length, take, drop, Option, Some, None}
use Rattle.words.specs.Block.{Bytes, low_bytes}
use Rattle.mem.specs.Mem.{start_of}
use Rattle.blockplan.specs.Parcel.{Mode, parcel_of, message_of, genuine}
use Rattle.mro.specs.Mro.{mro_mode}
use Rattle.cells.specs.Numbers.{part, number_at}
use Rattle.cells.specs.Cells.{priced}
use Rattle.sales.specs.declared.Sale.{Sale}
use Rattle.sales.specs.declared.Record.{Record}

-- ---- a new sale

-- by its fields, in the order of take's arguments
abbrev pub sale_of : ℕ → ℕ → List ℕ → ℕ → ℕ → ℕ → ℕ → ℕ → Sale
sale_of machine sale tail amount column means price day =
    record { machine = machine; sale = sale; tail = tail; amount = amount; column = column; means = means; price = price; day = day }

-- ---- a new sale into 61 bytes

-- the nonce is machine number (4), sale number (4) and eight bytes from the caller
unfoldable pub nonce_of : Sale → List ℕ
nonce_of x = low_bytes 4 x.machine ++ (low_bytes 4 x.sale ++ x.tail)

-- the record is amount in cents (4), column (2) and means (1); "in a sale of kind 2 the six clock bytes become listed price in cents (4) and day number (2)"
unfoldable pub record_of : Sale → List ℕ
record_of x = low_bytes 4 x.amount ++ (low_bytes 2 x.column ++ (low_bytes 1 x.means ++ (low_bytes 4 x.price ++ low_bytes 2 x.day)))

-- sealing is MRO, six rounds, under the start of all sealing
unfoldable pub sale_mode : List ℕ → List ℕ → Mode
sale_mode key nonce = mro_mode 6 (start_of 6 key nonce)

-- the 61 bytes: nonce 16, then the record sealed with an empty header, 13, and its tag, 32
unfoldable pub body_for : List ℕ → Sale → List ℕ
body_for key x = nonce_of x ++ parcel_of (sale_mode key (nonce_of x)) [] (record_of x)

-- ---- a sale of either kind

-- what the last six bytes of its record are: in a sale of kind 1 the clock, in one of kind 2 listed price and day number
pub data Detail : Type 0 where
  clock : List ℕ → Detail
  listed : (price day : ℕ) → Detail

-- a sale as the store holds it, with every field
pub record StoredSale : Type 0 where
  pub machine : ℕ
  pub sale : ℕ
  pub tail : List ℕ
  pub amount : ℕ
  pub column : ℕ
  pub means : ℕ
  pub detail : Detail

-- as the store holds a new sale ("New sales are kind 2"): with listed price and day number
unfoldable pub stored_as : Sale → StoredSale
stored_as x = record {
  machine = x.machine;
  sale = x.sale;
  tail = x.tail;
  amount = x.amount;
  column = x.column;
  means = x.means;
  detail = listed x.price x.day;
}

-- ---- out of 61 bytes

-- whether they open under the key
unfoldable pub opens : List ℕ → List ℕ → Bool
opens key body = genuine (sale_mode key (take 16 body)) [] (drop 16 body)

-- the record that they open to
unfoldable pub record_in : List ℕ → List ℕ → List ℕ
record_in key body = message_of (sale_mode key (take 16 body)) (drop 16 body)

-- the record's last six bytes, by the kind byte of their cell: listed price in cents (4) and day number (2) for kind 2; else the clock (6)
unfoldable pub detail_in : ℕ → List ℕ → Detail
detail_in kind r = cond (eqb kind priced) (listed (number_at 4 7 r) (number_at 2 11 r)) (clock (part 6 7 r))

-- the sale that they hold, in a cell of this kind
unfoldable pub sale_in : List ℕ → ℕ → List ℕ → StoredSale
sale_in key kind body =
    let r = record_in key body in
    record {
      machine = number_at 4 0 body;
      sale = number_at 4 4 body;
      tail = part 8 8 body;
      amount = number_at 4 0 r;
      column = number_at 2 4 r;
      means = number_at 1 6 r;
      detail = detail_in kind r;
    }

-- ---- cash

-- what a sale of either kind adds to the cash total: its amount where means is 1, coin
unfoldable pub cash_of : StoredSale → ℕ
cash_of x = cond (eqb x.means 1) x.amount 0

-- ---- what functions promise each other

-- the numbers of a record that calls tell: amount, means, and what stands where kind 2 has the price
abbrev pub numbers_in : List ℕ → Record
numbers_in r = record { amount = number_at 4 0 r; means = number_at 1 6 r; price = number_at 4 7 r }

-- what opening the 61 bytes gives: these numbers, where they open
unfoldable pub opening : List ℕ → List ℕ → Option Record
opening key body = cond (opens key body) (Some (numbers_in (record_in key body))) None

-- ---- what the types of a new sale's fields say

-- 4, 4, 8, 4, 2, 1, 4 and 2 bytes
pub record Fits (x : Sale) : Type 0 where
  pub machine-fits : x.machine < 2 ^ 32
  pub sale-fits : x.sale < 2 ^ 32
  pub tail-long : length x.tail ≡ 8
  pub tail-bytes : Bytes x.tail
  pub amount-fits : x.amount < 2 ^ 32
  pub column_fits : x.column < 2 ^ 16
  pub means-fits : x.means < 256
  pub price-fits : x.price < 2 ^ 32
  pub day-fits : x.day < 2 ^ 16
