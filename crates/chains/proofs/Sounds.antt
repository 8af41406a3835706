-- A store is sound where both chains end, their kinds fit, and they have as many cells as there are. Assumes nothing.
use mathlib.Core.Path.{◌≡◌, refl, sym, subst, ◌∙◌}
use mathlib.Core.Bool.{Bool, cond, true, false, false≢true}
use mathlib.Core.List.{List, [], ◌∷◌, ◌++◌}
use Prim.Native.Nat.{ℕ, ◌+◌, ◌-◌, ◌≤◌, ◌<◌}
use native.Mathlib.Omega.{arith}
use native.Mathlib.Decide.{dec_lt, ℕ_discrete}
use lib.Dec.{eqb}
use lib.ListN.{length, length-append}
use borrow.Author.Tests.{eq-eqb, ne_eqb, eqb-true}
use Rattle.cells.specs.Chains.{count}
use Rattle.cells.specs.Cells.{cells, first_sale, first_free, next_of, kind_of, kind_fits, formed}
use Rattle.cells.proofs.Chains.{Linked, In, count-there, pigeonhole}
use Rattle.cells.proofs.Form.{Long, of-form}
use Rattle.chains.specs.Sound.{Segment, BothUpTo, OneUpTo}
use Rattle.cells.proofs.Counts.{count-append}

module _ (s : List ℕ) (k : Bool) where
  pub segment-more : (i : ℕ) (l : List ℕ) (j : ℕ) → Segment s k i l j → 0 < j → j < cells s → kind_fits k (kind_of s j) ≡ true → Segment s k i (l ++ (j ∷ [])) (next_of s j)
  segment-more i [] j e a b d = (e, a, b, d, refl)
  segment-more i (c ∷ l) j e a b d = (e.0, e.1, e.2, e.3, segment-more (next_of s c) l j e.4 a b d)

  pub segment-join : (i : ℕ) (l : List ℕ) (j : ℕ) (m : List ℕ) (n : ℕ) → Segment s k i l j → Segment s k j m n → Segment s k i (l ++ m) n
  segment-join i [] j m n e f = subst (λ (x : ℕ). Segment s k x m n) (sym e) f
  segment-join i (c ∷ l) j m n e f = (e.0, e.1, e.2, e.3, segment-join (next_of s c) l j m n e.4 f)

  segment-linked : (i : ℕ) (l : List ℕ) → Segment s k i l 0 → Linked (next_of s) i l
  segment-linked i [] e = e
  segment-linked i (c ∷ l) e = (e.0, e.1, segment-linked (next_of s c) l e.4)

  segment-in : (i : ℕ) (l : List ℕ) (j : ℕ) → Segment s k i l j → (c : ℕ) → In c l → (0 < c) × (c < cells s) × (kind_fits k (kind_of s c) ≡ true)
  unfolding count
  segment-in i [] j e c h = absurd (omega arith)
  segment-in i (d ∷ l) j e c h = elim (ℕ_discrete d c) [
    | yes p ↦ (rw p at e.1, rw p at e.2, rw p at e.3)
    | no q ↦ segment-in (next_of s d) l j e.4 c (omega (arith, count-there d l c q))
  ]

  -- from one index there is one chain
  segment-length : (i : ℕ) (l m : List ℕ) → Segment s k i l 0 → Segment s k i m 0 → length l ≡ length m
  segment-length i [] [] e f = refl
  segment-length i [] (d ∷ m) e f = absurd (let z = f.0 in let p = f.1 in omega arith)
  segment-length i (c ∷ l) [] e f = absurd (let z = e.0 in let p = e.1 in omega arith)
  segment-length i (c ∷ l) (d ∷ m) e f =
      let q : d ≡ c = sym f.0 ∙ e.0 in
      let g : Segment s k (next_of s c) m 0 = subst (λ (x : ℕ). Segment s k (next_of s x) m 0) q f.4 in
      omega (arith, segment-length (next_of s c) l m e.4 g)

  -- the chain from one of its cells on
  record From (c : ℕ) (l : List ℕ) : Type 0 where
    after : List ℕ
    segment : Segment s k (next_of s c) after 0
    less : length after < length l

  segment-from : (i : ℕ) (l : List ℕ) → Segment s k i l 0 → (c : ℕ) → In c l → From c l
  unfolding count
  segment-from i [] e c h = absurd (omega arith)
  segment-from i (d ∷ l) e c h = elim (ℕ_discrete d c) [
    | yes p ↦ record { after = l; segment = subst (λ (x : ℕ). Segment s k (next_of s x) l 0) p e.4; less = omega arith }
    | no q ↦
        let f = segment-from (next_of s d) l e.4 c (omega (arith, count-there d l c q)) in
        record { after = f.after; segment = f.segment; less = omega (arith, f.less) }
  ]

  -- a chain that ends has no cell twice
  segment-once : (i : ℕ) (l : List ℕ) → Segment s k i l 0 → (c : ℕ) → count c l ≤ 1
  unfolding count
  segment-once i [] e c = omega arith
  segment-once i (d ∷ l) e c = elim (ℕ_discrete d c) [
    | yes p ↦ elim (dec_lt 0 (count c l)) [
      | yes h ↦
          let f = segment-from (next_of s d) l e.4 c h in
          let g : Segment s k (next_of s c) l 0 = subst (λ (x : ℕ). Segment s k (next_of s x) l 0) p e.4 in
          absurd (omega (arith, f.less, segment-length (next_of s c) f.after l f.segment g))
      | no h ↦ rw (eq-eqb d c p) (omega arith)
    ]
    | no q ↦ omega (arith, segment-once (next_of s d) l e.4 c, count-there d l c q)
  ]

-- one step of one chain, and of both
pub one_more : (s : List ℕ) (k : Bool) (i j n left : ℕ) → OneUpTo s k i j n left → (j ≡ 0 → ⊥) → j < cells s → kind_fits k (kind_of s j) ≡ true → 1 ≤ left → OneUpTo s k i (next_of s j) n (left - 1)
one_more s k i j n left r z a b p =
    record { chain = r.chain ++ (j ∷ []); segment = segment-more s k i r.chain j r.segment (omega (arith, z)) a b; many = omega (arith, r.many, length-append r.chain (j ∷ [])) }

pub both-more : (s : List ℕ) (a b left : ℕ) → BothUpTo s a b left → (a ≡ 0 → ⊥) → (b ≡ 0 → ⊥) → a < cells s → b < cells s → kind_fits true (kind_of s a) ≡ true → kind_fits false (kind_of s b) ≡ true → 2 ≤ left → BothUpTo s (next_of s a) (next_of s b) (left - 2)
both-more s a b left p y z c d e f l = record {
  sales = p.sales ++ (a ∷ []);
  spare = p.spare ++ (b ∷ []);
  of-sales = segment-more s true (first_sale s) p.sales a p.of-sales (omega (arith, y)) c e;
  of-spare = segment-more s false (first_free s) p.spare b p.of-spare (omega (arith, z)) d f;
  many = omega (arith, p.many, length-append p.sales (a ∷ []), length-append p.spare (b ∷ []));
}

-- no kind fits both chains
fits-apart : (kind : ℕ) → kind_fits true kind ≡ true → kind_fits false kind ≡ true → ⊥
unfolding kind_fits
fits-apart kind a b =
    let z = eqb-true kind 0 b in
    false≢true (rw (ne_eqb kind 1 (λ e. omega arith), ne_eqb kind 2 (λ e. omega arith)) at a)

module _ (s cs fs : List ℕ) (long : Long s) (x : Segment s true (first_sale s) cs 0) (y : Segment s false (first_free s) fs 0) (many : length cs + length fs + 1 ≡ cells s) where
  once : (c : ℕ) → count c cs + count c fs ≤ 1
  once c = elim (dec_lt 0 (count c cs)) [
    | yes p ↦ elim (dec_lt 0 (count c fs)) [
      | yes q ↦ absurd (fits-apart (kind_of s c) (segment-in s true _ cs 0 x c p).2 (segment-in s false _ fs 0 y c q).2)
      | no q ↦ omega (arith, segment-once s true _ cs x c)
    ]
    | no p ↦ omega (arith, segment-once s false _ fs y c)
  ]

  low : (c : ℕ) → 0 < count c cs + count c fs → (0 < c) × (c < cells s)
  low c h = elim (dec_lt 0 (count c cs)) [
    | yes p ↦ ((segment-in s true _ cs 0 x c p).0, (segment-in s true _ cs 0 x c p).1)
    | no p ↦ let q : In c fs = omega arith in ((segment-in s false _ fs 0 y c q).0, (segment-in s false _ fs 0 y c q).1)
  ]

  none-zero : count 0 cs + count 0 fs ≡ 0
  none-zero = elim (dec_lt 0 (count 0 cs + count 0 fs)) [ yes p ↦ absurd (let a = (low 0 p).0 in omega arith) | no p ↦ omega arith ]

  none-past : (c : ℕ) → cells s ≤ c → count c cs + count c fs ≡ 0
  none-past c h = elim (dec_lt 0 (count c cs + count c fs)) [ yes p ↦ absurd (let a = (low c p).1 in omega arith) | no p ↦ omega arith ]

  -- cell 0, a cell that is missing, and all others would be one too many
  reached : (c : ℕ) → (c ≡ 0 → ⊥) → c < cells s → 0 < count c cs + count c fs
  unfolding count
  reached c z l = elim (dec_lt 0 (count c cs + count c fs)) [
    | yes p ↦ p
    | no p ↦ absurd (omega (arith, pigeonhole (cells s) (0 ∷ (c ∷ (cs ++ fs))) (each (omega arith)) past, length-append cs fs))
  ] where
    counted : (d : ℕ) → count d (0 ∷ (c ∷ (cs ++ fs))) ≡ cond (eqb 0 d) 1 0 + (cond (eqb c d) 1 0 + (count d cs + count d fs))
    counted d = rw (count-append d cs fs)

    each : (count c cs + count c fs ≡ 0) → (d : ℕ) → count d (0 ∷ (c ∷ (cs ++ fs))) ≤ 1
    each h d = elim (ℕ_discrete d 0) [
      | yes e ↦
          let n : count d cs + count d fs ≡ 0 = rw e none-zero in
          rw (counted d, eq-eqb 0 d (sym e), ne_eqb c d (λ q. z (q ∙ e))) (omega arith)
      | no n ↦ elim (ℕ_discrete d c) [
        | yes e ↦
            let k : count d cs + count d fs ≡ 0 = rw e h in
            rw (counted d, ne_eqb 0 d (λ q. n (sym q)), eq-eqb c d (sym e)) (omega arith)
        | no m ↦ rw (counted d, ne_eqb 0 d (λ q. n (sym q)), ne_eqb c d (λ q. m (sym q))) (omega (arith, once d))
      ]
    ]

    past : (d : ℕ) → cells s ≤ d → count d (0 ∷ (c ∷ (cs ++ fs))) ≡ 0
    past d h = rw (counted d, ne_eqb 0 d (λ q. omega arith), ne_eqb c d (λ q. omega arith)) (omega (arith, none-past d h))

  cover : (c : ℕ) → c < cells s → count c cs + count c fs ≡ cond (eqb c 0) 0 1
  cover c l = elim (ℕ_discrete c 0) [
    | yes z ↦
        let n : count c cs + count c fs ≡ 0 = rw z none-zero in
        rw (eq-eqb c 0 z) n
    | no z ↦ rw (ne_eqb c 0 z) (omega (arith, reached c z l, once c))
  ]

  pub segments-formed : formed s ≡ true
  segments-formed = of-form s cs fs (record {
    size = long;
    sold = segment-linked s true _ cs x;
    spare = segment-linked s false _ fs y;
    sold-here = λ c i. (segment-in s true _ cs 0 x c i).1;
    sold-kind = λ c i. (segment-in s true _ cs 0 x c i).2;
    free-here = λ c i. (segment-in s false _ fs 0 y c i).1;
    free-kind = λ c i. (segment-in s false _ fs 0 y c i).2;
    cover = cover;
  })

-- the walks put together
pub ended-formed : (s : List ℕ) (a b n m l : ℕ) → Long s → BothUpTo s a b n → OneUpTo s true a 0 n m → OneUpTo s false b 0 m l → l ≡ 0 → formed s ≡ true
ended-formed s a b n m l long p q r e =
    let x = segment-join s true (first_sale s) p.sales a q.chain 0 p.of-sales q.segment in
    let y = segment-join s false (first_free s) p.spare b r.chain 0 p.of-spare r.segment in
    segments-formed s (p.sales ++ q.chain) (p.spare ++ r.chain) long x y (omega (arith, p.many, q.many, r.many, length-append p.sales q.chain, length-append p.spare r.chain))
