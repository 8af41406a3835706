-- Steps at two rows with no place in common: either may come first. Assumes nothing.
use Rattle.std.proofs.Common.{◌≡◌, ℕ, ◌<◌, ◌≢◌, List, get_or, set, sym, ◌∙◌, lit<, get_or-set_other}
use lib.Seq.{set_comm}
use Rattle.permutation.specs.declared.g.Quad.{Quad}
use Rattle.permutation.specs.Permutation.{pick, put, step_at}
use Rattle.permutation.specs.Order.{Apart}

-- ---- a place that is none of the row's

abbrev Off : List ℕ → ℕ → Type 0
Off row i = (k : ℕ) → k < 4 → get_or row k 0 ≢ i

module _ (row : List ℕ) (q : Quad) (s : List ℕ) (i : ℕ) (off : Off row i) where
  -- a store there may come before or after
  set-put : (v : ℕ) → set (put row q s) i v ≡ put row q (set s i v)
  unfolding put
  set-put v =
      let s0 = set s (get_or row 0 0) q.a in
      let s1 = set s0 (get_or row 1 0) q.b in
      let s2 = set s1 (get_or row 2 0) q.c in
      rw (
        set_comm s2 (get_or row 3 0) i q.d v (off 3 (lit< tt)),
        set_comm s1 (get_or row 2 0) i q.c v (off 2 (lit< tt)),
        set_comm s0 (get_or row 1 0) i q.b v (off 1 (lit< tt)),
        set_comm s (get_or row 0 0) i q.a v (off 0 (lit< tt)),
      )

  -- what is read there stays
  get_or-put : get_or (put row q s) i 0 ≡ get_or s i 0
  unfolding put
  get_or-put =
      let s0 = set s (get_or row 0 0) q.a in
      let s1 = set s0 (get_or row 1 0) q.b in
      let s2 = set s1 (get_or row 2 0) q.c in
      get_or-set_other s2 _ i _ 0 (λ e. off 3 (lit< tt) (sym e)) ∙ get_or-set_other s1 _ i _ 0 (λ e. off 2 (lit< tt) (sym e))
      ∙ get_or-set_other s0 _ i _ 0 (λ e. off 1 (lit< tt) (sym e)) ∙ get_or-set_other s _ i _ 0 (λ e. off 0 (lit< tt) (sym e))

-- ---- two rows

module _ (row other : List ℕ) (a : Apart row other) where
  -- no place of the other row is one of the row's
  off-row : (j : ℕ) → j < 4 → Off row (get_or other j 0)
  unfolding Apart
  off-row j hj i hi = a i j hi hj

  pick_other : (p : Quad) (s : List ℕ) → pick other (put row p s) ≡ pick other s
  unfolding pick
  pick_other p s =
      rw (
        get_or-put row p s (get_or other 0 0) (off-row 0 (lit< tt)),
        get_or-put row p s (get_or other 1 0) (off-row 1 (lit< tt)),
        get_or-put row p s (get_or other 2 0) (off-row 2 (lit< tt)),
        get_or-put row p s (get_or other 3 0) (off-row 3 (lit< tt)),
      )

  put-comm : (p q : Quad) (s : List ℕ) → put other q (put row p s) ≡ put row p (put other q s)
  unfolding put
  put-comm p q s =
      let s0 = set s (get_or other 0 0) q.a in
      let s1 = set s0 (get_or other 1 0) q.b in
      let s2 = set s1 (get_or other 2 0) q.c in
      rw (
        set-put row p s (get_or other 0 0) (off-row 0 (lit< tt)) q.a,
        set-put row p s0 (get_or other 1 0) (off-row 1 (lit< tt)) q.b,
        set-put row p s1 (get_or other 2 0) (off-row 2 (lit< tt)) q.c,
        set-put row p s2 (get_or other 3 0) (off-row 3 (lit< tt)) q.d,
      )

apart-flip : (row other : List ℕ) → Apart row other → Apart other row
unfolding Apart
apart-flip row other a i j hi hj e = a j i hj hi (sym e)

pub step-comm : (f h : Quad → Quad) (row other : List ℕ) → Apart row other → (s : List ℕ)
    → step_at h other (step_at f row s) ≡ step_at f row (step_at h other s)
unfolding step_at
step-comm f h row other a s =
    let p = f (pick row s) in
    let q = h (pick other s) in
    rw (pick_other row other a p s, pick_other other row (apart-flip row other a) q s) (put-comm row other a p q s)
