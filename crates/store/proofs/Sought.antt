-- What was found by a sale's numbers. Assumes nothing.
use mathlib.Core.Path.{◌≡◌, refl, ap}
use mathlib.Core.Bool.{Bool, true, false, cond}
use mathlib.Core.Logic.{inl, inr}
use mathlib.Core.List.{List}
use Prim.Native.Nat.{ℕ, ◌<◌}
use native.Mathlib.Omega.{arith}
use Rattle.cells.specs.Chains.{holder}
use Rattle.cells.specs.Cells.{cells, first_free, next_of, sales, free, formed, named, present, cell_named, cell_before}
use Rattle.cells.proofs.Chains.{first-in, holder_in}
use Rattle.cells.proofs.Form.{form_of, in-cases, start-in}
use Rattle.chains.specs.declared.Found.{Found}
use Rattle.std.specs.Prelude.{Option, Some, None, is_some}
use Rattle.chains.specs.Found.{stands_at, found_of}

-- what was found, where something was
abbrev shown : Found → Option Found → Found
shown other (Some f) = f
shown other None = other

module _ (machine sale : ℕ) (s : List ℕ) where
  pub found-some : (f : Found) → Some f ≡ found_of machine sale s → (present machine sale s ≡ true) × (f ≡ stands_at machine sale s)
  unfolding found_of
  found-some f h = go (present machine sale s) h where
    go : (t : Bool) → ◌≡◌ {A = Option Found} (Some f) (cond t (Some (stands_at machine sale s)) None) → (t ≡ true) × (f ≡ stands_at machine sale s)
    go true e = (refl, ap (λ (o : Option Found). shown f o) e)
    go false e = absurd (let z : ◌≡◌ {A = ℕ} 0 1 = cc in omega arith)

  pub found-none : None ≡ found_of machine sale s → present machine sale s ≡ false
  unfolding found_of
  found-none h = go (present machine sale s) h where
    go : (t : Bool) → ◌≡◌ {A = Option Found} None (cond t (Some (stands_at machine sale s)) None) → t ≡ false
    go true e = absurd (let z : ◌≡◌ {A = ℕ} 0 1 = cc in omega arith)
    go false e = refl

  pub found-is_some : is_some (found_of machine sale s) ≡ present machine sale s
  unfolding found_of
  found-is_some = go (present machine sale s) where
    go : (t : Bool) → is_some {T = Found} (cond t (Some (stands_at machine sale s)) None) ≡ t
    go true = refl
    go false = refl

  -- both cells are the store's
  pub cell-inside : formed s ≡ true → present machine sale s ≡ true → cell_named machine sale s < cells s
  unfolding present cell_named
  cell-inside e p = (form_of s e).sold-here _ (first-in (named machine sale s) (sales s) p)

  pub before-inside : formed s ≡ true → cell_before machine sale s < cells s
  unfolding cell_before
  before-inside e =
      let f = form_of s e in
      elim (in-cases 0 (holder (named machine sale s) 0 (sales s)) (sales s) (holder_in (named machine sale s) 0 (sales s))) [
        | inl z ↦ omega (arith, f.size.least, f.size.whole)
        | inr i ↦ f.sold-here _ i
      ]

-- and so is the first free cell, where there is one
pub free-inside : (s : List ℕ) → formed s ≡ true → (first_free s ≡ 0 → ⊥) → first_free s < cells s
free-inside s e n =
    let f = form_of s e in
    elim (start-in (next_of s) (first_free s) (free s) f.spare) [ inl z ↦ absurd (n z) | inr i ↦ f.free-here _ i ]
