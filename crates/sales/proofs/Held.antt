-- What 61 bytes hold, as opening them leaves it and as the sale has it. Assumes nothing.
use mathlib.Core.Bool.{Bool, true, false, cond}
use Rattle.std.specs.Prelude.{Option, Some, None}
use mathlib.Core.List.{List, [], append-nil}
use mathlib.Core.Path.{◌≡◌, refl, sym, ap, ◌∙◌}
use Prim.Native.Nat.{ℕ, ◌-◌}
use native.Mathlib.Omega.{arith}
use lib.Dec.{eqb}
use lib.ListN.{length, take, drop, length-drop, drop_of_length-le}
use Rattle.words.specs.Sequence.{zeros}
use Rattle.words.proofs.Lists.{tail_part}
use Rattle.mem.specs.Mem.{start_of}
use Rattle.blockplan.specs.Parcel.{opened}
use Rattle.mro.specs.Mro.{mro_mode}
use Rattle.cells.specs.Numbers.{number_at}
use Rattle.sales.specs.declared.Record.{Record}
use Rattle.sales.specs.Sale.{sale_mode, opens, record_in, sale_in, cash_of, numbers_in, opening}

-- the record that they open to, and zeros where they don't open
abbrev held : List ℕ → List ℕ → List ℕ
held key body = cond (opens key body) (record_in key body) (zeros 13)

-- what a caller learns where the bytes open
pub held-cash : (key body : List ℕ) (kind : ℕ)
    → cond (eqb (number_at 1 6 (record_in key body)) 1) (number_at 4 0 (record_in key body)) 0 ≡ cash_of (sale_in key kind body)
unfolding cash_of sale_in
held-cash key body kind = refl

-- the record where opening gave one
abbrev shown : Record → Option Record → Record
shown other (Some r) = r
shown other None = other

pub opened-some : (key body : List ℕ) (r : Record) → Some r ≡ opening key body → (opens key body ≡ true) × (r ≡ numbers_in (record_in key body))
unfolding opening
opened-some key body r h = go (opens key body) h where
  go : (t : Bool) → ◌≡◌ {A = Option Record} (Some r) (cond t (Some (numbers_in (record_in key body))) None) → (t ≡ true) × (r ≡ numbers_in (record_in key body))
  go true e = (refl, ap (λ (o : Option Record). shown r o) e)
  go false e = absurd (let z : ◌≡◌ {A = ℕ} 0 1 = cc in omega arith)

pub opened-none : (key body : List ℕ) → None ≡ opening key body → opens key body ≡ false
unfolding opening
opened-none key body h = go (opens key body) h where
  go : (t : Bool) → ◌≡◌ {A = Option Record} None (cond t (Some (numbers_in (record_in key body))) None) → t ≡ false
  go true e = absurd (let z : ◌≡◌ {A = ℕ} 0 1 = cc in omega arith)
  go false e = refl

-- ---- as opening leaves it

module _ (key body old : List ℕ) (e : length body ≡ 61) (f : length old ≡ 13) where
  all-opened : opened (sale_mode key (take 16 body)) [] (drop 16 body) old ≡ (opens key body, held key body)
  unfolding opened opens record_in
  all-opened =
      let back : length (drop 16 body) - 32 ≡ 13 = simp length-drop (omega arith) in
      let none : drop 13 old ≡ [] = drop_of_length-le old {i = 13} (omega arith) in
      rw (back, none, append-nil)

  -- whether they open, and the record where they do
  pub held-opened : (start out : List ℕ) (right : Bool) → start ≡ start_of 6 key (take 16 body)
      → (right, out) ≡ opened (mro_mode 6 start) [] (take (length body - 16) (drop 16 body)) old → (right ≡ opens key body) × (right ≡ true → out ≡ record_in key body)
  unfolding sale_mode
  held-opened start out right s q =
      let is : ◌≡◌ {A = Bool × List ℕ} (right, out) (opens key body, held key body) = q ∙ rw (s, tail_part 16 body) all-opened in
      let first : right ≡ opens key body = ap (λ (p : Bool × List ℕ). p.0) is in
      (first, λ t. ap (λ (p : Bool × List ℕ). p.1) is ∙ rw (sym first ∙ t))
