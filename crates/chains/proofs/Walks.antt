-- How far a walk came, by its marks: it stops, or goes on. Assumes nothing.
use mathlib.Core.Path.{◌≡◌, refl, sym, ap, ◌∙◌}
use mathlib.Core.Bool.{Bool, true, false, cond, not}
use mathlib.Core.List.{List, [], ◌∷◌, ◌++◌}
use Prim.Native.Nat.{ℕ, suc, ◌+◌, ◌-◌, ◌*◌, ◌≤◌, ◌<◌}
use native.Mathlib.Omega.{arith}
use native.Mathlib.Decide.{dec_lt, ℕ_discrete}
use lib.Dec.{ltb}
use borrow.Author.Tests.{eq-eqb, ne_eqb, lt-ltb, le-ltb}
use Rattle.std.specs.Prelude.{Ok, Err}
use Rattle.chains.specs.declared.MarkedWalk.{MarkedWalk}
use Rattle.cells.specs.Chains.{count}
use Rattle.cells.specs.Cells.{cells, next_of, kind_of, kind_fits}
use Rattle.cells.specs.declared.Fault.TheVariants.{Index}
use Rattle.cells.specs.Faults.{Stop, ended, sound, broken_or, walk_of}
use Rattle.chains.specs.Marks.{Marks, FirstMisfit, Walked, bit_at, marked}
use lib.ListN.{length}
use Rattle.cells.proofs.Counts.{count-last}
use Rattle.cells.proofs.Walks.{walk-on}
use Rattle.chains.proofs.Bits.{marks-more}

-- the walk from w's start stands here, with these cells reached and marked, and steps enough for the cells left
pub record On (fits : ℕ → Bool) (s m : List ℕ) (sold : Bool) (left lowest from at : ℕ) (w : Stop × List ℕ) : Type 0 where
  pub reached : List ℕ
  pub steps : ℕ
  pub enough : left ≤ steps
  pub marks : Marks m reached
  pub least : FirstMisfit fits reached (cells s) lowest
  pub fresh : (c : ℕ) → count c reached ≡ 0 → fits c ≡ kind_fits sold (kind_of s c)
  pub rest : w ≡ walk_of s steps reached from at

-- and ends here
pub arrived : (fits : ℕ → Bool) (s m : List ℕ) (sold : Bool) (left lowest from at : ℕ) (w : Stop × List ℕ) (r : MarkedWalk) (o : On fits s m sold left lowest from at w)
    → walk_of s o.steps o.reached from at ≡ (ended, o.reached) → r.lowest ≡ lowest → Walked fits (cells s) (Ok r) m w
unfolding broken_or
arrived fits s m sold left lowest from at w r o e k =
    let h : w ≡ (ended, o.reached) = o.rest ∙ e in
    let l : w.1 ≡ o.reached = ap (λ (x : Stop × List ℕ). x.1) h in
    record { stop = sym (ap (λ (x : Stop × List ℕ). broken_or x.0 sound) h); marks = rw l o.marks; lowest = rw (l, k) o.least }

-- or is stopped here
pub stopped : (fits : ℕ → Bool) (s m : List ℕ) (sold : Bool) (left lowest from at : ℕ) (w : Stop × List ℕ) (o : On fits s m sold left lowest from at w)
    → walk_of s o.steps o.reached from at ≡ (Err from, o.reached) → Walked fits (cells s) (Err (Index from)) m w
unfolding broken_or
stopped fits s m sold left lowest from at w o e =
    let h : w ≡ (Err from, o.reached) = o.rest ∙ e in
    let l : w.1 ≡ o.reached = ap (λ (x : Stop × List ℕ). x.1) h in
    record { stop = sym (ap (λ (x : Stop × List ℕ). broken_or x.0 sound) h); marks = rw l o.marks; lowest = (lowest, rw l o.least) }

-- the smaller of a misfit and the one lowest is lowest
pub misfit-more : (fits : ℕ → Bool) (reached : List ℕ) (n k at d : ℕ) → FirstMisfit fits reached n k → at < n → d ≡ cond (not (fits at)) (cond (ltb at k) at k) k → FirstMisfit fits (reached ++ (at ∷ [])) n d
misfit-more fits reached n k at d g l e = by_test (fits at) refl e where
  old : FirstMisfit fits (reached ++ (at ∷ [])) n k → d ≡ k → FirstMisfit fits (reached ++ (at ∷ [])) n d
  old h q = rw q h

  here : count at (reached ++ (at ∷ [])) ≡ count at reached + 1
  here = count-last at reached at ∙ rw (eq-eqb at at refl)

  there : (c : ℕ) → (c ≡ at → ⊥) → count c (reached ++ (at ∷ [])) ≡ count c reached
  there c q = count-last c reached at ∙ rw (ne_eqb at c (λ h. q (sym h))) (omega arith)

  more : (c : ℕ) → count c reached ≤ count c (reached ++ (at ∷ []))
  more c = omega (arith, count-last c reached at)

  by_test : (t : Bool) → fits at ≡ t → d ≡ cond (not t) (cond (ltb at k) at k) k → FirstMisfit fits (reached ++ (at ∷ [])) n d
  by_test true f q = old (record {
    most = g.most;
    least = λ c b i. elim (ℕ_discrete c at) [ yes h ↦ rw h f | no h ↦ g.least c b (omega (arith, there c h)) ];
    found = λ b. (omega (arith, (g.found b).0, more k), (g.found b).1);
  }) q
  by_test false f q = elim (dec_lt at k) [
    | yes a ↦
        let z : d ≡ at = rw (lt-ltb at k a) at q in
        rw z (record {
          most = omega arith;
          least = λ c b i. g.least c (omega arith) (omega (arith, there c (λ h. omega arith)));
          found = λ b. (omega (arith, here), f);
        })
    | no a ↦
        let z : d ≡ k = rw (le-ltb at k (omega arith)) at q in
        old (record {
          most = g.most;
          least = λ c b i. g.least c b (omega (arith, there c (λ h. omega arith)));
          found = λ b. (omega (arith, (g.found b).0, more k), (g.found b).1);
        }) z
  ]

-- or goes on
pub onward : (fits : ℕ → Bool) (s m n : List ℕ) (sold : Bool) (left lowest next from at : ℕ) (w : Stop × List ℕ) → 1 ≤ left → (at ≡ 0 → ⊥) → at < cells s → at < 64 * length m → bit_at m at ≡ 0 → n ≡ marked m at
    → next ≡ cond (not (kind_fits sold (kind_of s at))) (cond (ltb at lowest) at lowest) lowest
    → On fits s m sold left lowest from at w → On fits s n sold (left - 1) next at (next_of s at) w
onward fits s m n sold left lowest next from at w h z l k b e q o =
    let new : count at o.reached ≡ 0 = sym (o.marks.each at) ∙ b in
    let f : o.steps ≡ suc (o.steps - 1) = omega (arith, o.enough) in
    record {
      reached = o.reached ++ (at ∷ []);
      steps = o.steps - 1;
      enough = omega (arith, o.enough);
      marks = rw e (marks-more m o.reached at k b o.marks);
      least = misfit-more fits o.reached (cells s) lowest at next o.least l (rw (o.fresh at new) q);
      fresh = λ c i. o.fresh c (omega (arith, count-last c o.reached at));
      rest = o.rest ∙ ap (λ (t : ℕ). walk_of s t o.reached from at) f ∙ walk-on s (o.steps - 1) o.reached from at z l new;
    }
