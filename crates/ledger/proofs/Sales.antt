-- Lists of sales: read off lists of cells, and their coin amounts. Assumes nothing.
use mathlib.Core.Bool.{Bool, true, false, cond}
use mathlib.Core.List.{List, [], ◌∷◌, ◌++◌, map}
use mathlib.Core.Path.{◌≡◌, refl, ap, ap₂}
use Prim.Native.Nat.{ℕ, ◌+◌}
use native.Mathlib.Omega.{arith}
use Rattle.cells.specs.Chains.{first, some}
use Rattle.cells.proofs.Chains.{In, others, count-here, count-more}
use Rattle.sales.specs.Sale.{StoredSale, cash_of}
use Rattle.entries.specs.Entries.{cash}
use Rattle.ledger.specs.Book.{is_named, found, without, coins}

-- ---- sales of cells

pub map-ext : (f g : ℕ → StoredSale) (cs : List ℕ) → ((c : ℕ) → In c cs → f c ≡ g c) → map f cs ≡ map g cs
map-ext f g [] h = refl
map-ext f g (c ∷ cs) h =
    ap₂ (λ (x : StoredSale) (l : List StoredSale). x ∷ l) (h c (omega (arith, count-here c cs))) (map-ext f g cs (λ d i. h d (omega (arith, count-more c cs d))))

module _ (machine sale : ℕ) (f : ℕ → StoredSale) (test : ℕ → Bool) (same : (c : ℕ) → test c ≡ is_named machine sale (f c)) where
  -- the others are those of the other cells
  pub without-map : (cs : List ℕ) → without machine sale (map f cs) ≡ map f (others test cs)
  unfolding without others
  without-map [] = refl
  without-map (c ∷ cs) = rw (← same c) (go (without-map cs) (test c))
    where
      go : without machine sale (map f cs) ≡ map f (others test cs) → (t : Bool)
          → cond t (map f cs) (f c ∷ without machine sale (map f cs)) ≡ map f (cond t cs (c ∷ others test cs))
      go ih true = refl
      go ih false = ap (λ (l : List StoredSale). f c ∷ l) ih

  -- the sale found is that of the cell found
  pub found_map : (cs : List ℕ) → found machine sale (map f cs) ≡ cond (some test cs) (f (first test cs) ∷ []) []
  unfolding found some first
  found_map [] = refl
  found_map (c ∷ cs) = rw (← same c) (go (found_map cs) (test c))
    where
      go : found machine sale (map f cs) ≡ cond (some test cs) (f (first test cs) ∷ []) [] → (t : Bool)
          → cond t (f c ∷ []) (found machine sale (map f cs)) ≡ cond (cond t true (some test cs)) (f (cond t c (first test cs)) ∷ []) []
      go ih true = refl
      go ih false = ih

-- ---- coin amounts

-- total's cash is the coin amounts
pub cash-coins : (l : List StoredSale) → cash l ≡ coins l
unfolding cash cash_of coins
cash-coins [] = refl
cash-coins (x ∷ l) = ap (λ (n : ℕ). cash_of x + n) (cash-coins l)

pub coins-append : (l m : List StoredSale) → coins (l ++ m) ≡ coins l + coins m
unfolding coins
coins-append [] m = omega arith
coins-append (x ∷ l) m = omega (arith, coins-append l m)

-- the sale that is removed and the others make the whole
pub coins-parted : (machine sale : ℕ) (l : List StoredSale) → coins (found machine sale l) + coins (without machine sale l) ≡ coins l
unfolding coins found without
coins-parted machine sale [] = omega arith
coins-parted machine sale (x ∷ l) = go (is_named machine sale x) (coins-parted machine sale l)
  where
    go : (t : Bool) → coins (found machine sale l) + coins (without machine sale l) ≡ coins l
        → coins (cond t (x ∷ []) (found machine sale l)) + coins (cond t l (x ∷ without machine sale l)) ≡ coins (x ∷ l)
    go true e = omega arith
    go false e = omega arith
