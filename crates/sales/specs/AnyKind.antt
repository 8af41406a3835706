-- What a sale's 61 bytes hold whatever the kind of their cell, which lies outside what is sealed, and what goes by it (document 02, card 8). Assumes nothing.
use Rattle.std.specs.Prelude.{◌≡◌, List, ℕ}
use Rattle.cells.specs.Numbers.{part, number_at}
use Rattle.cells.specs.Cells.{unpriced, priced}
use Rattle.sales.specs.Sale.{record_in, sale_in, cash_of}
use Rattle.sales.specs.Sale.Detail.{clock, listed}

-- for every key and every 61 bytes, in cells of any two kinds; proved as any-kind in proofs/AnyKind
pub record AnyKind : Type 0 where
  pub machine-same : (key body : List ℕ) (j k : ℕ) → (sale_in key j body).machine ≡ (sale_in key k body).machine
  pub sale-same : (key body : List ℕ) (j k : ℕ) → (sale_in key j body).sale ≡ (sale_in key k body).sale
  pub tail-same : (key body : List ℕ) (j k : ℕ) → (sale_in key j body).tail ≡ (sale_in key k body).tail
  pub amount-same : (key body : List ℕ) (j k : ℕ) → (sale_in key j body).amount ≡ (sale_in key k body).amount
  pub column-same : (key body : List ℕ) (j k : ℕ) → (sale_in key j body).column ≡ (sale_in key k body).column
  pub means-same : (key body : List ℕ) (j k : ℕ) → (sale_in key j body).means ≡ (sale_in key k body).means
  -- and so what it adds to the cash total
  pub cash-same : (key body : List ℕ) (j k : ℕ) → cash_of (sale_in key j body) ≡ cash_of (sale_in key k body)
  -- "In a sale of kind 2 the six clock bytes become listed price in cents (4) and day number (2)"
  pub clock-of : (key body : List ℕ) → (sale_in key unpriced body).detail ≡ clock (part 6 7 (record_in key body))
  pub listed_of : (key body : List ℕ) → (sale_in key priced body).detail ≡ listed (number_at 4 7 (record_in key body)) (number_at 2 11 (record_in key body))
