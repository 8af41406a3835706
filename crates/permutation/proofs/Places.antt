-- A step on four words, taken at four places of a block. Assumes nothing.
use Rattle.std.proofs.Common.{◌≡◌, ℕ, ◌<◌, ◌≢◌, List, length, get_or, set, sym, ap, ◌∙◌, arith, length-set, get_or-set_other, get_or-set_same, set-set}
use lib.Seq.{set-get_or, set_comm}
use Rattle.words.specs.Block.{Block}
use Rattle.words.specs.Undo.{Undo}
use Rattle.words.proofs.Blocks.{set-block}
use Rattle.words.proofs.Maps.{Keeps}
use Rattle.permutation.specs.declared.g.Quad.{Quad}
use Rattle.permutation.specs.Permutation.{pick, put, step_at}
use Rattle.permutation.proofs.Lines.{Words, quad}

-- four places of a block, no two of them the same
pub record Row (row : List ℕ) : Type 0 where
  pub a_in : get_or row 0 0 < 16
  pub b-in : get_or row 1 0 < 16
  pub c-in : get_or row 2 0 < 16
  pub d-in : get_or row 3 0 < 16
  pub ab : get_or row 0 0 ≢ get_or row 1 0
  pub ac : get_or row 0 0 ≢ get_or row 2 0
  pub ad : get_or row 0 0 ≢ get_or row 3 0
  pub bc : get_or row 1 0 ≢ get_or row 2 0
  pub bd : get_or row 1 0 ≢ get_or row 3 0
  pub cd : get_or row 2 0 ≢ get_or row 3 0

-- ---- four places read and written

-- a place is written again, past one to three stores at other places
module _ (s : List ℕ) (i x y : ℕ) where
  again1 : (j b : ℕ) → i ≢ j → set (set (set s i x) j b) i y ≡ set (set s i y) j b
  again1 j b ij = sym (set_comm (set s i x) i j y b ij) ∙ ap (λ (t : List ℕ). set t j b) (set-set s i x y)

  again2 : (j b k c : ℕ) → i ≢ j → i ≢ k → set (set (set (set s i x) j b) k c) i y ≡ set (set (set s i y) j b) k c
  again2 j b k c ij ik =
      sym (set_comm (set (set s i x) j b) i k y c ik) ∙ ap (λ (t : List ℕ). set t k c) (again1 j b ij)

  again3 : (j b k c l d : ℕ) → i ≢ j → i ≢ k → i ≢ l
      → set (set (set (set (set s i x) j b) k c) l d) i y ≡ set (set (set (set s i y) j b) k c) l d
  again3 j b k c l d ij ik il =
      sym (set_comm (set (set (set s i x) j b) k c) i l y d il) ∙ ap (λ (t : List ℕ). set t l d) (again2 j b k c ij ik)

module _ (row : List ℕ) (r : Row row) where
  pub pick_put : (q : Quad) (s : List ℕ) → length s ≡ 16 → pick row (put row q s) ≡ q
  unfolding pick put
  pick_put q s h =
      let s0 = set s (get_or row 0 0) q.a in
      let s1 = set s0 (get_or row 1 0) q.b in
      let s2 = set s1 (get_or row 2 0) q.c in
      quad (pick row (put row q s)) q
      (get_or-set_other s2 _ _ _ 0 r.ad ∙ get_or-set_other s1 _ _ _ 0 r.ac ∙ get_or-set_other s0 _ _ _ 0 r.ab ∙ get_or-set_same s _ _ 0 (omega arith))
      (get_or-set_other s2 _ _ _ 0 r.bd ∙ get_or-set_other s1 _ _ _ 0 r.bc ∙ get_or-set_same s0 _ _ 0 (simp length-set (omega arith)))
      (get_or-set_other s2 _ _ _ 0 r.cd ∙ get_or-set_same s1 _ _ 0 (simp length-set (omega arith)))
      (get_or-set_same s2 _ _ 0 (simp length-set (omega arith)))

  pub put-put : (p q : Quad) (s : List ℕ) → put row q (put row p s) ≡ put row q s
  unfolding put
  put-put p q s =
      let s0 = set s (get_or row 0 0) q.a in
      let s1 = set s0 (get_or row 1 0) q.b in
      let s2 = set s1 (get_or row 2 0) q.c in
      rw (
        again3 s (get_or row 0 0) p.a q.a (get_or row 1 0) p.b (get_or row 2 0) p.c (get_or row 3 0) p.d r.ab r.ac r.ad,
        again2 s0 (get_or row 1 0) p.b q.b (get_or row 2 0) p.c (get_or row 3 0) p.d r.bc r.bd,
        again1 s1 (get_or row 2 0) p.c q.c (get_or row 3 0) p.d r.cd,
        set-set s2 (get_or row 3 0) p.d q.d,
      )

pub put-pick : (row s : List ℕ) → put row (pick row s) s ≡ s
unfolding pick put
put-pick row s = rw (set-get_or, set-get_or, set-get_or, set-get_or)

-- ---- blocks stay blocks

pub put-block : (row : List ℕ) (q : Quad) (s : List ℕ) → Words q → Block s → Block (put row q s)
unfolding put
put-block row q s w b = set-block _ _ _ (set-block _ _ _ (set-block _ _ _ (set-block _ _ _ b w.a) w.b) w.c) w.d

pub pick-words : (row s : List ℕ) → Block s → Words (pick row s)
unfolding pick
pick-words row s b = record { a = b.words _; b = b.words _; c = b.words _; d = b.words _ }

-- ---- a step at a row

keeps : (f : Quad → Quad) → Keeps Words f → (row : List ℕ) → Keeps Block (step_at f row)
unfolding step_at
keeps f k row s b = put-block row (f (pick row s)) s (k (pick row s) (pick-words row s b)) b

undone : (f h : Quad → Quad) → ((q : Quad) → Words q → h (f q) ≡ q) → (row : List ℕ) → Row row → (s : List ℕ) → Block s
    → step_at h row (step_at f row s) ≡ s
unfolding step_at
undone f h e row r s b =
    let q = pick row s in
    rw (pick_put row r (f q) s b.long, e q (pick-words row s b), put-put row r (f q) q s, put-pick row s)

-- two steps on four words that undo each other do so at the places of a row
pub undo-at : {f h : Quad → Quad} → Undo Words f h → (row : List ℕ) → Row row → Undo Block (step_at f row) (step_at h row)
undo-at {f} {h} u row r = record {
  forth-keeps = keeps f u.forth-keeps row;
  back-keeps = keeps h u.back-keeps row;
  back-forth = undone f h u.back-forth row r;
  forth-back = undone h f u.forth-back row r;
}
