-- No fault is the form, and the form is no fault. Assumes nothing.
use mathlib.Core.Path.{◌≡◌, refl, sym, ap, ◌∙◌}
use mathlib.Core.Bool.{Bool, true, false, cond, ◌||◌}
use mathlib.Core.List.{List, [], ◌∷◌, ◌++◌, append_assoc, append-nil}
use Prim.Native.Nat.{ℕ, zero, suc, ◌+◌, ◌-◌, ◌≤◌, ◌<◌}
use native.Mathlib.Omega.{arith}
use native.Mathlib.Decide.{dec_lt, ℕ_discrete}
use lib.Dec.{eqb, ltb}
use lib.ListN.{length}
use borrow.Author.Tests.{eq-eqb, ne_eqb, le-ltb, ltb-false, not-false, not-true, eqb-false}
use Rattle.cells.specs.declared.Fault.TheVariants.{Length, Kind}
use Rattle.std.specs.Prelude.{Ok, Err}
use Rattle.cells.specs.Chains.{count, is_in, first_from}
use Rattle.cells.specs.Cells.{cells, first_sale, first_free, next_of, kind_of, kind_fits, length_fits, formed}
use Rattle.cells.specs.Faults.{Stop, Finding, ended, sound, walk_of, sales_walk, free_walk, unfit, length_or, broken_or, kind_fault, form_fault, fault_of}
use Rattle.cells.proofs.Chains.{Linked, In}
use Rattle.cells.proofs.Form.{Form, long_of, of-long, form_of, of-form}
use Rattle.cells.proofs.Counts.{count-append, first-all, all_first, in-yes, in-no}
use Rattle.cells.proofs.Walks.{Proper, proper-nil, proper-on, inside, inside-yes, inside_past, inside-zero, inside-le, walk_end, walk-on, walked, short}

-- where a walk that ends has been
record Ended (s reached : List ℕ) (at : ℕ) (w : Stop × List ℕ) : Type 0 where
  chain : List ℕ
  whole : w.1 ≡ reached ++ chain
  linked : Linked (next_of s) at chain
  proper : Proper s w.1

module _ (s reached : List ℕ) (at : ℕ) where
  ended_here : (w : Stop × List ℕ) → Proper s reached → at ≡ 0 → w ≡ (ended, reached) → Ended s reached at w
  ended_here w p z e = record { chain = []; whole = ap (λ (x : Stop × List ℕ). x.1) e ∙ sym (append-nil reached); linked = z; proper = rw e p }

  ended-on : (w : Stop × List ℕ) → (at ≡ 0 → ⊥) → Ended s (reached ++ (at ∷ [])) (next_of s at) w → Ended s reached at w
  ended-on w z e = record { chain = at ∷ e.chain; whole = e.whole ∙ append_assoc reached (at ∷ []) e.chain; linked = (refl, (omega (arith, z)), e.linked); proper = e.proper }

walk-ended : (s : List ℕ) (n : ℕ) (reached : List ℕ) (from at : ℕ) → Proper s reached → (walk_of s n reached from at).0 ≡ ended → Ended s reached at (walk_of s n reached from at)
walk-ended s =
    walked s (λ n reached from at w. Proper s reached → w.0 ≡ ended → Ended s reached at w) (λ n reached from at z p h. ended_here s reached at (ended, reached) p z refl)
    (λ n reached from at z o p h. absurd (let q : ◌≡◌ {A = ℕ} 0 1 = cc in omega arith))
    (λ n reached from at w z l k ih p h. ended-on s reached at w z (ih (proper-on s reached at p z l k) h))

fresh-inside : (s reached : List ℕ) (c : ℕ) (l : List ℕ) → Proper s (reached ++ (c ∷ l)) → (c ≡ 0 → ⊥) × ((c < cells s) × (count c reached ≡ 0))
unfolding Proper count
fresh-inside s reached c l p =
    let h : count c reached + (1 + count c l) ≤ inside (cells s) c = rw (count-append c reached (c ∷ l), eq-eqb c c refl) at (p c) in
    let o = inside-le (cells s) c in (
      (λ z. omega (arith, inside-zero (cells s) c z)),
      (
        elim (dec_lt c (cells s)) [ yes b ↦ b | no b ↦ absurd (omega (arith, inside_past (cells s) c (omega arith))) ],
        omega arith,
      ),
    )

-- a chain whose cells lie inside and were not reached is walked to its end
followed : (s : List ℕ) (n : ℕ) (reached : List ℕ) (from at : ℕ) (l : List ℕ) → Linked (next_of s) at l → Proper s (reached ++ l) → length l ≤ n → walk_of s n reached from at ≡ (ended, reached ++ l)
followed s n reached from at [] k p h = walk_end s n reached from at k ∙ ap (λ (x : List ℕ). (ended, x)) (sym (append-nil reached))
followed s zero reached from at (c ∷ l) k p h = absurd (omega arith)
followed s (suc n) reached from at (c ∷ l) k p h =
    let f = fresh-inside s reached c l p in
    let g = append_assoc reached (c ∷ []) l in
    rw (k.0, walk-on s n reached from c f.0 f.1.0 f.1.1, followed s n (reached ++ (c ∷ [])) c (next_of s c) l k.2 (rw g p) (omega arith), g)

-- the checks, one by one
broken-sound : (w : Stop) (f : Finding) → broken_or w f ≡ sound → (w ≡ ended) × (f ≡ sound)
unfolding broken_or
broken-sound (Ok none) f h = (refl, h)
broken-sound (Err c) f h = absurd (let z : ◌≡◌ {A = ℕ} 0 1 = cc in omega arith)

kind-sound : (n c : ℕ) → kind_fault n c ≡ sound → n ≤ c
unfolding kind_fault
kind-sound n c h = by_test (ltb c n) refl h where
  by_test : (t : Bool) → ltb c n ≡ t → cond t (Err (Kind c)) sound ≡ sound → n ≤ c
  by_test true e g = absurd (let z : ◌≡◌ {A = ℕ} 0 1 = cc in omega arith)
  by_test false e g = ltb-false c n e

fault-sound : (s : List ℕ) → fault_of s ≡ sound → (length_fits s ≡ true) × (form_fault s ≡ sound)
unfolding fault_of length_or
fault-sound s h = by_test (length_fits s) h where
  by_test : (t : Bool) → cond t (form_fault s) (Err Length) ≡ sound → (t ≡ true) × (form_fault s ≡ sound)
  by_test true g = (refl, g)
  by_test false g = absurd (let z : ◌≡◌ {A = ℕ} 0 1 = cc in omega arith)

or-false : (a b : Bool) → (a || b) ≡ false → (a ≡ false) × (b ≡ false)
or-false true b h = absurd (let z : ◌≡◌ {A = ℕ} 0 1 = cc in omega arith)
or-false false b h = (refl, h)

inside-below : (n c : ℕ) → 0 < inside n c → c < n
inside-below n c h = elim (dec_lt c n) [ yes p ↦ p | no q ↦ absurd (omega (arith, inside_past n c (omega arith))) ]

module _ (s : List ℕ) (h : fault_of s ≡ sound) where
  ends : ((sales_walk s).0 ≡ ended) × (((free_walk s).0 ≡ ended) × (cells s ≤ first_from (unfit s (sales_walk s).1 (free_walk s).1) 1 (cells s - 1)))
  unfolding form_fault
  ends =
      let b = broken-sound (sales_walk s).0 _ (fault-sound s h).1 in
      let d = broken-sound (free_walk s).0 _ b.1 in
      (b.0, (d.0, kind-sound (cells s) _ d.1))

  of-sales : Ended s [] (first_sale s) (sales_walk s)
  unfolding sales_walk
  of-sales = walk-ended s (cells s) [] 0 (first_sale s) (proper-nil s) ends.0

  of-free : Ended s (sales_walk s).1 (first_free s) (free_walk s)
  unfolding free_walk
  of-free = walk-ended s (cells s) (sales_walk s).1 0 (first_free s) of-sales.proper ends.1.0

  cs : List ℕ
  cs = (sales_walk s).1

  fs : List ℕ
  fs = of-free.chain

  fit : (c : ℕ) → 0 < c → c < cells s → (kind_fits (is_in c cs) (kind_of s c) ≡ true) × (is_in c (free_walk s).1 ≡ true)
  unfolding unfit cs
  fit c a b =
      let e = or-false _ _ (first-all (unfit s (sales_walk s).1 (free_walk s).1) 1 (cells s - 1) (omega (arith, ends.1.1)) c (omega arith) (omega arith)) in
      (not-false _ e.0, not-false _ e.1)

  both-counts : (c : ℕ) → count c (free_walk s).1 ≡ count c cs + count c fs
  unfolding cs fs
  both-counts c = ap (count c) of-free.whole ∙ count-append c (sales_walk s).1 of-free.chain

  within : (c : ℕ) → count c cs + count c fs ≤ inside (cells s) c
  unfolding Proper
  within c = omega (arith, both-counts c, of-free.proper c)

  reached-all : (c : ℕ) → c < cells s → count c cs + count c fs ≡ cond (eqb c 0) 0 1
  unfolding is_in
  reached-all c p = elim (ℕ_discrete c 0) [
    | yes z ↦ rw (eq-eqb c 0 z) (omega (arith, within c, inside-zero (cells s) c z))
    | no z ↦
        let k = eqb-false (count c (free_walk s).1) 0 (not-true _ (fit c (omega (arith, z)) p).1) in
        rw (ne_eqb c 0 z) (omega (arith, k, both-counts c, within c, inside-yes (cells s) c (omega (arith, z)) p))
  ]

  pub sound-formed : formed s ≡ true
  sound-formed = of-form s cs fs (record {
    size = long_of s (fault-sound s h).0;
    sold = unfold cs in rw of-sales.whole of-sales.linked;
    spare = unfold fs in of-free.linked;
    sold-here = λ c i. inside-below (cells s) c (omega (arith, within c));
    sold-kind = λ c i.
        let l = inside-below (cells s) c (omega (arith, within c)) in
        rw (in-yes c cs i) at (fit c (positive c (omega arith)) l).0;
    free-here = λ c i. inside-below (cells s) c (omega (arith, within c));
    free-kind = λ c i.
        let l = inside-below (cells s) c (omega (arith, within c)) in
        let o = inside-le (cells s) c in
        rw (in-no c cs (omega (arith, within c))) at (fit c (positive c (omega arith)) l).0;
    cover = reached-all;
  })
    where
      positive : (c : ℕ) → 0 < count c cs + count c fs → 0 < c
      positive c i = elim (ℕ_discrete c 0) [ yes z ↦ absurd (omega (arith, within c, inside-zero (cells s) c z)) | no z ↦ omega (arith, z) ]

module _ (s cs fs : List ℕ) (f : Form s cs fs) where
  none : (l : List ℕ) → ((c : ℕ) → In c l → c < cells s) → (c : ℕ) → (c < cells s → ⊥) → count c l ≡ 0
  none l h c q = elim (dec_lt 0 (count c l)) [ yes p ↦ absurd (q (h c p)) | no n ↦ omega arith ]

  within_both : (c : ℕ) → count c cs + count c fs ≤ inside (cells s) c
  within_both c = elim (dec_lt c (cells s)) [
    | yes p ↦ elim (ℕ_discrete c 0) [
      | yes z ↦ let e = f.cover c p in omega (arith, rw (eq-eqb c 0 z) at e)
      | no z ↦ let e = f.cover c p in omega (arith, rw (ne_eqb c 0 z) at e, inside-yes (cells s) c (omega (arith, z)) p)
    ]
    | no q ↦ omega (arith, none cs f.sold-here c q, none fs f.free-here c q)
  ]

  proper-both : Proper s (cs ++ fs)
  unfolding Proper
  proper-both c = omega (arith, within_both c, count-append c cs fs)

  proper-sales : Proper s cs
  unfolding Proper
  proper-sales c = omega (arith, within_both c)

  proper-free : Proper s fs
  unfolding Proper
  proper-free c = omega (arith, within_both c)

  sales-walk : sales_walk s ≡ (ended, cs)
  unfolding sales_walk
  sales-walk = followed s (cells s) [] 0 (first_sale s) cs f.sold proper-sales (short s cs proper-sales)

  free-walk : free_walk s ≡ (ended, cs ++ fs)
  unfolding free_walk
  free-walk = rw sales-walk (followed s (cells s) cs 0 (first_free s) fs f.spare proper-both (short s fs proper-free))

  kind-fits : (c : ℕ) → c < cells s → (c ≡ 0 → ⊥) → kind_fits (is_in c cs) (kind_of s c) ≡ true
  kind-fits c l z = elim (dec_lt 0 (count c cs)) [
    | yes p ↦ rw (in-yes c cs p) (f.sold-kind c p)
    | no q ↦ rw (in-no c cs (omega arith)) (f.free-kind c (let e = f.cover c l in omega (arith, rw (ne_eqb c 0 z) at e)))
  ]

  all_fit : (c : ℕ) → 1 ≤ c → c < 1 + (cells s - 1) → unfit s cs (cs ++ fs) c ≡ false
  unfolding unfit
  all_fit c a b =
      let l : c < cells s = omega arith in
      let z : c ≡ 0 → ⊥ = λ e. omega arith in
      let e = f.cover c l in
      rw (kind-fits c l z, in-yes c (cs ++ fs) (omega (arith, count-append c cs fs, rw (ne_eqb c 0 z) at e)))

  pub form-sound : fault_of s ≡ sound
  unfolding fault_of length_or form_fault broken_or kind_fault
  form-sound =
      rw (of-long s f.size, sales-walk, free-walk, le-ltb (first_from (unfit s cs (cs ++ fs)) 1 (cells s - 1)) (cells s) (omega (arith, all_first (unfit s cs (cs ++ fs)) 1 (cells s - 1) all_fit)))

-- a store has no fault exactly where its form is as said
pub formed-sound : (s : List ℕ) → formed s ≡ true → fault_of s ≡ sound
formed-sound s e = form-sound s _ _ (form_of s e)
