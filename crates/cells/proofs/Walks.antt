-- The walk of a chain: one step, the cells that it reaches, and that it needs no more steps than there are cells. Assumes nothing.
use mathlib.Core.Path.{◌≡◌, refl, sym, ap, ◌∙◌}
use mathlib.Core.Bool.{Bool, true, false, cond, ◌&&◌}
use mathlib.Core.List.{List, [], ◌∷◌, ◌++◌}
use Prim.Native.Nat.{ℕ, zero, suc, ◌+◌, ◌≤◌, ◌<◌}
use native.Mathlib.Omega.{arith}
use native.Mathlib.Decide.{dec_lt, ℕ_discrete}
use lib.Dec.{ltb}
use lib.ListN.{length, length-append}
use borrow.Author.Tests.{eq-eqb, ne_eqb, le-leb, lt-leb, lt-ltb, le-ltb}
use Rattle.cells.specs.Chains.{count}
use Rattle.cells.specs.Cells.{cells, next_of}
use Rattle.std.specs.Prelude.{Ok, Err}
use Rattle.cells.specs.Faults.{Stop, ended, walk_of}
use Rattle.cells.proofs.Counts.{count-last, in-yes, in-no}
use Rattle.cells.proofs.Chains.{pigeonhole}

-- ---- one step

pub walk_end : (s : List ℕ) (n : ℕ) (reached : List ℕ) (from at : ℕ) → at ≡ 0 → walk_of s n reached from at ≡ (ended, reached)
unfolding walk_of
walk_end s zero reached from at e = rw (eq-eqb at 0 e)
walk_end s (suc n) reached from at e = rw (eq-eqb at 0 e)

walk-out : (s reached : List ℕ) (from at : ℕ) → (at ≡ 0 → ⊥) → walk_of s zero reached from at ≡ (Err from, reached)
unfolding walk_of
walk-out s reached from at z = rw (ne_eqb at 0 z)

pub walk-past : (s : List ℕ) (n : ℕ) (reached : List ℕ) (from at : ℕ) → (at ≡ 0 → ⊥) → cells s ≤ at → walk_of s n reached from at ≡ (Err from, reached)
unfolding walk_of
walk-past s zero reached from at z h = rw (ne_eqb at 0 z)
walk-past s (suc n) reached from at z h = rw (ne_eqb at 0 z, le-leb (cells s) at h)

pub walk-twice : (s : List ℕ) (n : ℕ) (reached : List ℕ) (from at : ℕ) → (at ≡ 0 → ⊥) → at < cells s → (count at reached ≡ 0 → ⊥) → walk_of s n reached from at ≡ (Err from, reached)
unfolding walk_of
walk-twice s zero reached from at z l h = rw (ne_eqb at 0 z)
walk-twice s (suc n) reached from at z l h = rw (ne_eqb at 0 z, lt-leb (cells s) at l, in-yes at reached (omega (arith, h)))

pub walk-on : (s : List ℕ) (n : ℕ) (reached : List ℕ) (from at : ℕ) → (at ≡ 0 → ⊥) → at < cells s → count at reached ≡ 0 → walk_of s (suc n) reached from at ≡ walk_of s n (reached ++ (at ∷ [])) at (next_of s at)
unfolding walk_of
walk-on s n reached from at z l h = rw (ne_eqb at 0 z, lt-leb (cells s) at l, in-no at reached h)

-- a claim about every walk: it holds of each that stops at once, and of one with a step more wherever of the one behind that step. A walk that is stopped though its index is a cell not reached before has no step left
pub walked : (s : List ℕ) (P : ℕ → List ℕ → ℕ → ℕ → Stop × List ℕ → Type 0)
    → ((n : ℕ) (reached : List ℕ) (from at : ℕ) → at ≡ 0 → P n reached from at (ended, reached))
    → ((n : ℕ) (reached : List ℕ) (from at : ℕ) → (at ≡ 0 → ⊥) → (at < cells s → count at reached ≡ 0 → n ≡ 0) → P n reached from at (Err from, reached))
    → ((n : ℕ) (reached : List ℕ) (from at : ℕ) (w : Stop × List ℕ) → (at ≡ 0 → ⊥) → at < cells s → count at reached ≡ 0 → P n (reached ++ (at ∷ [])) at (next_of s at) w → P (suc n) reached from at w)
    → (n : ℕ) (reached : List ℕ) (from at : ℕ) → P n reached from at (walk_of s n reached from at)
walked s P end broken on zero reached from at = elim (ℕ_discrete at 0) [
  | yes z ↦ rw (walk_end s zero reached from at z) (end zero reached from at z)
  | no z ↦ rw (walk-out s reached from at z) (broken zero reached from at z (λ l k. refl))
]
walked s P end broken on (suc n) reached from at = elim (ℕ_discrete at 0) [
  | yes z ↦ rw (walk_end s (suc n) reached from at z) (end (suc n) reached from at z)
  | no z ↦ elim (dec_lt at (cells s)) [
    | no l ↦ rw (walk-past s (suc n) reached from at z (omega arith)) (broken (suc n) reached from at z (λ p k. absurd (l p)))
    | yes l ↦ elim (ℕ_discrete (count at reached) 0) [
      | no k ↦ rw (walk-twice s (suc n) reached from at z l k) (broken (suc n) reached from at z (λ p e. absurd (k e)))
      | yes k ↦ rw (walk-on s n reached from at z l k) (on n reached from at _ z l k (walked s P end broken on n (reached ++ (at ∷ [])) at (next_of s at)))
    ]
  ]
]

-- ---- the cells reached

-- 1 for a cell from 1 to n - 1, else 0
unfoldable pub inside : ℕ → ℕ → ℕ
inside n c = cond (ltb 0 c && ltb c n) 1 0

pub inside-yes : (n c : ℕ) → 0 < c → c < n → inside n c ≡ 1
unfolding inside
inside-yes n c a b = rw (lt-ltb 0 c a, lt-ltb c n b)

pub inside_past : (n c : ℕ) → n ≤ c → inside n c ≡ 0
unfolding inside
inside_past n c h = rw (le-ltb c n h) (none (ltb 0 c)) where
  none : (t : Bool) → ◌≡◌ {A = ℕ} (cond (t && false) 1 0) 0
  none true = refl
  none false = refl

pub inside-zero : (n c : ℕ) → c ≡ 0 → inside n c ≡ 0
unfolding inside
inside-zero n c e = rw (le-ltb 0 c (omega arith))

pub inside-le : (n c : ℕ) → inside n c ≤ 1
unfolding inside
inside-le n c = bit (ltb 0 c && ltb c n) where
  bit : (t : Bool) → ◌≤◌ (cond t 1 0) 1
  bit true = omega arith
  bit false = omega arith

-- the cells reached lie inside, each once
unfoldable pub Proper : List ℕ → List ℕ → Type 0
Proper s reached = (c : ℕ) → count c reached ≤ inside (cells s) c

pub proper-nil : (s : List ℕ) → Proper s []
unfolding Proper count
proper-nil s c = omega arith

pub proper-on : (s reached : List ℕ) (at : ℕ) → Proper s reached → (at ≡ 0 → ⊥) → at < cells s → count at reached ≡ 0 → Proper s (reached ++ (at ∷ []))
unfolding Proper
proper-on s reached at p z l h c = elim (ℕ_discrete c at) [
  | yes e ↦ rw (e, count-last at reached at, eq-eqb at at refl, h, inside-yes (cells s) at (omega (arith, z)) l) (omega arith)
  | no n ↦ rw (count-last c reached at, ne_eqb at c (λ e. n (sym e))) (omega (arith, p c))
]

pub walk-proper : (s : List ℕ) (n : ℕ) (reached : List ℕ) (from at : ℕ) → Proper s reached → Proper s (walk_of s n reached from at).1
walk-proper s =
    walked s (λ n reached from at w. Proper s reached → Proper s w.1) (λ n reached from at z p. p) (λ n reached from at z o p. p)
    (λ n reached from at w z l k ih p. ih (proper-on s reached at p z l k))

-- no more cells than there are
pub short : (s l : List ℕ) → Proper s l → length l ≤ cells s
unfolding Proper
short s l p =
    pigeonhole (cells s) l (λ c. omega (arith, p c, inside-le (cells s) c)) (λ c h. omega (arith, p c, inside_past (cells s) c h))

-- a cell that was not reached, and cell 0, are two more
shorter : (s reached : List ℕ) (at : ℕ) → Proper s reached → (at ≡ 0 → ⊥) → at < cells s → count at reached ≡ 0 → length reached + 2 ≤ cells s
unfolding Proper count
shorter s reached at p z l k =
    let q = proper-on s reached at p z l k in
    omega (arith, length-append reached (at ∷ []), pigeonhole (cells s) (0 ∷ (reached ++ (at ∷ []))) (each q) (past q))
  where
    each : Proper s (reached ++ (at ∷ [])) → (c : ℕ) → count c (0 ∷ (reached ++ (at ∷ []))) ≤ 1
    each q c = elim (ℕ_discrete c 0) [
      | yes e ↦ rw (eq-eqb 0 c (sym e)) (omega (arith, q c, inside-zero (cells s) c e))
      | no n ↦ rw (ne_eqb 0 c (λ e. n (sym e))) (omega (arith, q c, inside-le (cells s) c))
    ]

    past : Proper s (reached ++ (at ∷ [])) → (c : ℕ) → cells s ≤ c → count c (0 ∷ (reached ++ (at ∷ []))) ≡ 0
    past q c h = rw (ne_eqb 0 c (λ e. omega arith)) (omega (arith, q c, inside_past (cells s) c h))

-- with steps for all cells that were not reached, further ones change nothing
pub walk-enough : (s : List ℕ) (more n : ℕ) (reached : List ℕ) (from at : ℕ) → Proper s reached → cells s ≤ n + length reached + 1 → walk_of s (n + more) reached from at ≡ walk_of s n reached from at
walk-enough s more =
    walked s (λ n reached from at w. Proper s reached → cells s ≤ n + length reached + 1 → walk_of s (n + more) reached from at ≡ w)
    (λ n reached from at z p h. walk_end s (n + more) reached from at z)
    stopped
    (λ n reached from at w z l k ih p h.
    let e : suc n + more ≡ suc (n + more) = omega arith in
    ap (λ (t : ℕ). walk_of s t reached from at) e ∙ walk-on s (n + more) reached from at z l k ∙ ih (proper-on s reached at p z l k) (omega (arith, length-append reached (at ∷ []))))
  where
    stopped : (n : ℕ) (reached : List ℕ) (from at : ℕ) → (at ≡ 0 → ⊥) → (at < cells s → count at reached ≡ 0 → n ≡ 0) → Proper s reached → cells s ≤ n + length reached + 1 → walk_of s (n + more) reached from at ≡ (Err from, reached)
    stopped n reached from at z o p h = elim (dec_lt at (cells s)) [
      | no l ↦ walk-past s (n + more) reached from at z (omega arith)
      | yes l ↦ elim (ℕ_discrete (count at reached) 0) [
        | no k ↦ walk-twice s (n + more) reached from at z l k
        | yes k ↦ absurd (omega (arith, o l k, shorter s reached at p z l k))
      ]
    ]

-- ---- the cell that held the index

-- the cell of a stop; 0 where there is none
unfoldable pub stop_cell : Stop → ℕ
stop_cell (Ok none) = 0
stop_cell (Err c) = c

pub walk-low : (s : List ℕ) (n : ℕ) (reached : List ℕ) (from at : ℕ) → from < cells s → stop_cell (walk_of s n reached from at).0 < cells s
unfolding stop_cell
walk-low s =
    walked s (λ n reached from at w. from < cells s → stop_cell w.0 < cells s) (λ n reached from at z l. omega arith) (λ n reached from at z o l. l)
    (λ n reached from at w z l k ih h. ih l)
