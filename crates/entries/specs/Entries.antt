-- The sales in a store's cells, as they open under a key (document 02, cards 1 and 8). Assumes nothing.
use Rattle.std.specs.Prelude.{Bool, not, List, [], ◌∷◌, map, ℕ, ◌+◌}
use Rattle.cells.specs.Cells.{kind_of, body_of, sales}
use Rattle.sales.specs.Sale.{StoredSale, opens, sale_in, cash_of}

-- whether the sale in a cell opens under the key
unfoldable pub opens_at : List ℕ → List ℕ → ℕ → Bool
opens_at key s c = opens key (body_of s c)

-- whether it won't
unfoldable pub shut_at : List ℕ → List ℕ → ℕ → Bool
shut_at key s c = not (opens_at key s c)

-- the sale in a cell, by its kind byte
unfoldable pub sale_at : List ℕ → List ℕ → ℕ → StoredSale
sale_at key s c = sale_in key (kind_of s c) (body_of s c)

-- the sales of the chain, of both kinds, from the first on
unfoldable pub sales_in : List ℕ → List ℕ → List StoredSale
sales_in key s = map (sale_at key s) (sales s)

-- cash total over means 1
unfoldable pub cash : List StoredSale → ℕ
cash [] = 0
cash (x ∷ l) = cash_of x + cash l
