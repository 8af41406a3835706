-- The calls of the check, put together. Assumes nothing.
use mathlib.Core.Path.{◌≡◌, refl, sym, ap, ◌∙◌}
use mathlib.Core.Bool.{Bool, true, false, not, ◌&&◌, ◌||◌}
use mathlib.Core.List.{List, []}
use Prim.Native.Nat.{ℕ, ◌-◌, ◌*◌, ◌/◌, ◌%◌, ◌^◌, ◌≤◌, ◌<◌}
use native.Mathlib.Nat.{zero-div}
use native.Mathlib.Omega.{arith}
use native.Mathlib.Decide.{dec_lt, ℕ_discrete}
use lib.ListN.{length, get_or, replicate, length-replicate, get_or-replicate, get_or-eq_default}
use Rattle.chains.specs.declared.MarkedWalk.{MarkedWalk}
use Rattle.std.specs.Prelude.{Result, Ok, Err}
use Rattle.cells.specs.declared.Fault.{Fault}
use Rattle.cells.specs.Numbers.{number_at}
use Rattle.cells.specs.Chains.{count, is_in, first_from}
use Rattle.cells.specs.Cells.{cells, first_sale, first_free, kind_of, kind_fits}
use Rattle.cells.specs.Faults.{walk_of, sales_walk, free_walk, unfit, Stop, Finding, sound, broken_or, kind_fault, form_fault}
use Rattle.chains.specs.Marks.{Marks, Unreached, FirstMisfit, Walked, bit_at, is_marked, unmarked}
use Rattle.cells.proofs.Counts.{all_first, first-ext, first-or, first-is, in-yes, in-no}
use Rattle.chains.proofs.Bits.{bits_none, unreached-none}

-- what a walk promises
abbrev pub Walks : List ℕ → List ℕ → ℕ → Bool → ℕ → Result MarkedWalk Fault → List ℕ → Type 0
Walks s m i sold k r n = (fits : ℕ → Bool) (reached : List ℕ) → Marks m reached → FirstMisfit fits reached (cells s) k → ((c : ℕ) → count c reached ≡ 0 → fits c ≡ kind_fits sold (kind_of s c)) → Walked fits (cells s) r n (walk_of s (cells s) reached 0 i)

-- the tests of the kinds: of the sales, and of all once the sales are known
abbrev pub sold_fits : List ℕ → ℕ → Bool
sold_fits s c = kind_fits true (kind_of s c)

abbrev pub each_fits : List ℕ → ℕ → Bool
each_fits s c = kind_fits (is_in c (sales_walk s).1) (kind_of s c)

pub sales-walked : (s m n : List ℕ) (i : ℕ) (r : Result MarkedWalk Fault) → i ≡ number_at 2 0 s → Walks s m i true (cells s) r n → Marks m [] → Walked (sold_fits s) (cells s) r n (sales_walk s)
unfolding sales_walk first_sale count
sales-walked s m n i r e w h = rw e at (w (sold_fits s) [] h (record { most = omega arith; least = λ c a b. absurd (omega arith); found = λ a. absurd (omega arith) }) (λ c a. refl))

-- the sales' test is that of all on the sales
misfit-all : (s : List ℕ) (n k : ℕ) → FirstMisfit (sold_fits s) (sales_walk s).1 n k → FirstMisfit (each_fits s) (sales_walk s).1 n k
misfit-all s n k g = record {
  most = g.most;
  least = λ c a b. rw (in-yes c (sales_walk s).1 b) (g.least c a b);
  found = λ a. ((g.found a).0, rw (in-yes k (sales_walk s).1 (g.found a).0) (g.found a).1);
}

pub free-walked : (s m n : List ℕ) (i : ℕ) (q : MarkedWalk) (r : Result MarkedWalk Fault) → i ≡ number_at 2 2 s → Walks s m i false q.lowest r n → Walked (sold_fits s) (cells s) (Ok q) m (sales_walk s) → Walked (each_fits s) (cells s) r n (free_walk s)
unfolding free_walk first_free
free-walked s m n i q r e w h = rw e at (w (each_fits s) (sales_walk s).1 h.marks (misfit-all s (cells s) q.lowest h.lowest) (λ c a. rw (in-no c (sales_walk s).1 a)))

-- a walk that was stopped decides, whatever follows
broken-next : (w : Stop) (f : Fault) (next : Finding) → Err f ≡ broken_or w sound → Err f ≡ broken_or w next
unfolding broken_or
broken-next (Ok none) f next e = absurd (let z : ◌≡◌ {A = ℕ} 0 1 = cc in omega arith)
broken-next (Err c) f next e = e

-- behind one that came to its end the next decides
ended-next : (w : Stop) (next : Finding) → sound ≡ broken_or w sound → broken_or w next ≡ next
unfolding broken_or
ended-next (Ok none) next e = refl
ended-next (Err c) next e = absurd (let z : ◌≡◌ {A = ℕ} 0 1 = cc in omega arith)

pub broken-sales : (s m : List ℕ) (f : Fault) → Walked (sold_fits s) (cells s) (Err f) m (sales_walk s) → Err f ≡ form_fault s
unfolding form_fault
broken-sales s m f w = broken-next _ f _ w.stop

pub broken-free : (s m n : List ℕ) (q : MarkedWalk) (f : Fault) → Walked (sold_fits s) (cells s) (Ok q) m (sales_walk s) → Walked (each_fits s) (cells s) (Err f) n (free_walk s) → Err f ≡ form_fault s
unfolding form_fault
broken-free s m n q f v w = broken-next _ f _ w.stop ∙ sym (ended-next _ _ v.stop)

-- a cell that was reached and does not fit
bad : List ℕ → List ℕ → ℕ → Bool
bad s reached c = is_in c reached && not (each_fits s c)

module _ (s m n : List ℕ) (q r : MarkedWalk) (v : Walked (sold_fits s) (cells s) (Ok q) m (sales_walk s)) (w : Walked (each_fits s) (cells s) (Ok r) n (free_walk s)) where
  pub misfit-low : bit_at n 0 ≡ 0 → 1 ≤ cells s → 1 ≤ r.lowest
  misfit-low h a = elim (ℕ_discrete r.lowest 0) [
    | yes z ↦
        let f : 0 < count r.lowest (free_walk s).1 = (w.lowest.found (omega arith)).0 in
        absurd (let g : 0 < count 0 (free_walk s).1 = rw z at f in omega (arith, w.marks.each 0))
    | no z ↦ omega (arith, z)
  ]

  misfit-first : 1 ≤ r.lowest → first_from (bad s (free_walk s).1) 1 (cells s - 1) ≡ r.lowest
  unfolding bad
  misfit-first a = first-is (bad s (free_walk s).1) r.lowest (cells s) a w.lowest.most (λ i b l. before i l) (λ l. rw (in-yes r.lowest (free_walk s).1 (w.lowest.found l).0, (w.lowest.found l).1)) where
    before : (i : ℕ) → i < r.lowest → (is_in i (free_walk s).1 && not (each_fits s i)) ≡ false
    before i l = elim (ℕ_discrete (count i (free_walk s).1) 0) [
      | yes z ↦ rw (in-no i (free_walk s).1 z)
      | no z ↦ rw (in-yes i (free_walk s).1 (omega (arith, z)), w.lowest.least i l (omega (arith, z)))
    ]

  same-unfit : (i f : Bool) → (i && not f || not i) ≡ (not f || not i)
  same-unfit true true = refl
  same-unfit true false = refl
  same-unfit false true = refl
  same-unfit false false = refl

  unfit-is : (c : ℕ) → (bad s (free_walk s).1 c || unmarked n c) ≡ unfit s (sales_walk s).1 (free_walk s).1 c
  unfolding bad unmarked is_marked unfit is_in
  unfit-is c = rw (w.marks.each c) (same-unfit (is_in c (free_walk s).1) (each_fits s c))

  pub last-check : (at : ℕ) → 1 ≤ r.lowest → at ≡ first_from (unmarked n) 1 (r.lowest - 1) → kind_fault (cells s) at ≡ form_fault s
  unfolding form_fault
  last-check at a b =
      ap (kind_fault (cells s)) (b ∙ ap (λ (k : ℕ). first_from (unmarked n) 1 (k - 1)) (sym (misfit-first a)) ∙ first-or (bad s (free_walk s).1) (unmarked n) 1 (cells s - 1)
      ∙ first-ext (λ c. bad s (free_walk s).1 c || unmarked n c) (unfit s (sales_walk s).1 (free_walk s).1) 1 (cells s - 1) unfit-is)
      ∙ sym (ended-next _ _ v.stop ∙ ended-next _ _ w.stop)

-- where there is no room, none is unmarked
pub first-all-marked : (m : List ℕ) (n e : ℕ) → e ≤ n → n ≤ 64 * length m → 1 ≤ e → Unreached n m 0 → first_from (unmarked m) 1 (e - 1) ≡ e
first-all-marked m n e a l b r = all_first (unmarked m) 1 (e - 1) (λ i c d. unreached-none m n l r i c (omega arith)) ∙ omega arith

-- the same of a count of cells left, as the prover looks for it
pub none_left : (m : List ℕ) (n e left : ℕ) → left ≡ 0 → Unreached n m left → e ≤ n → n ≤ 64 * length m → 1 ≤ e → e ≡ first_from (unmarked m) 1 (e - 1)
none_left m n e left z r a l b = sym (first-all-marked m n e a l b (rw z at r))

pub none-reached : (n : ℕ) (m : List ℕ) → 1 ≤ n → Marks m [] → Unreached n m (n - 1)
unfolding count
none-reached n m a h = record { head = h.each 0; many = omega (arith, bits_none m n (λ k. h.each k)) }

pub no-marks : (n : ℕ) → Marks (replicate n 0) []
unfolding bit_at count
no-marks n = record { each = λ k. rw (zeroed (k / 64)) (none (k % 64)) } where
  zeroed : (i : ℕ) → ◌≡◌ {A = ℕ} (get_or (replicate n 0) i 0) 0
  zeroed i = elim (dec_lt i n) [ yes p ↦ get_or-replicate n i 0 0 p | no q ↦ get_or-eq_default (replicate n 0) 0 {n = i} (simp length-replicate (omega arith)) ]

  none : (j : ℕ) → 0 / 2 ^ j % 2 ≡ 0
  none j = rw zero-div
