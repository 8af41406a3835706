-- Lanes read and written. Assumes nothing.
use mathlib.Core.Path.{◌≡◌, refl, sym, ap, ◌∙◌}
use mathlib.Core.Logic.{◌≢◌}
use mathlib.Core.List.{List, [], ◌∷◌}
use Prim.Native.Nat.{ℕ, suc, zero, ◌+◌, ◌*◌, ◌<◌}
use native.Mathlib.Omega.{arith}
use native.Mathlib.Decide.{dec_lt}
use lib.ListN.{length, get_or, set, length-set}
use lib.Seq.{get_or-set_same, get_or-set_other, ext_get_or}
use Rattle.words.proofs.Lists.{length-tab, get_or-tab, tab-ext}
use Rattle.permutation.specs.Permutation.{pick, put, step_at}
use Rattle.permutation.specs.declared.g.Quad.{Quad}
use Rattle.lanes.specs.Lanes.{lane_at, lane, OneLane, AllLanes}

pub length-lane : (w : List ℕ) (m : ℕ) → length (lane w m) ≡ 16
unfolding lane
length-lane w m = length-tab (lane_at w m) 16

pub get_or-lane : (w : List ℕ) (m i : ℕ) → i < 16 → get_or (lane w m) i 0 ≡ get_or w (4 * i + m) 0
unfolding lane lane_at
get_or-lane w m i h = get_or-tab (lane_at w m) 16 i h

-- a store to one lane
module _ (w : List ℕ) (m i x : ℕ) (long : length w ≡ 64) (m-in : m < 4) (i-in : i < 16) where
  same_word : (j : ℕ) → j ≡ i → get_or (set w (4 * i + m) x) (4 * j + m) 0 ≡ get_or (set (lane w m) i x) j 0
  same_word j e = rw e (get_or-set_same w (4 * i + m) x 0 (omega arith) ∙ sym (get_or-set_same (lane w m) i x 0 (omega (arith, length-lane w m))))

  other_word : (j : ℕ) → j < 16 → j ≢ i → get_or (set w (4 * i + m) x) (4 * j + m) 0 ≡ get_or (set (lane w m) i x) j 0
  other_word j h d = get_or-set_other w (4 * i + m) (4 * j + m) x 0 (omega arith) ∙ sym (get_or-lane w m j h) ∙ sym (get_or-set_other (lane w m) i j x 0 d)

  set_word : (j : ℕ) → j < 16 → get_or (set w (4 * i + m) x) (4 * j + m) 0 ≡ get_or (set (lane w m) i x) j 0
  set_word j h = elim (dec_lt j i) [
    | yes p ↦ other_word j h (omega arith)
    | no p ↦ elim (dec_lt i j) [
      | yes q ↦ other_word j h (omega arith)
      | no q ↦ same_word j (omega arith)
    ]
  ]

  pub lane-set : lane (set w (4 * i + m) x) m ≡ set (lane w m) i x
  lane-set =
      ext_get_or 0 (lane (set w (4 * i + m) x) m) (set (lane w m) i x)
      (length-lane (set w (4 * i + m) x) m ∙ sym (length-set (lane w m) i x ∙ length-lane w m))
      (λ j h. let p : j < 16 = omega (arith, length-lane (set w (4 * i + m) x) m) in get_or-lane (set w (4 * i + m) x) m j p ∙ set_word j p)

  pub lane-set-other : (n : ℕ) → n < 4 → n ≢ m → lane (set w (4 * i + m) x) n ≡ lane w n
  unfolding lane lane_at
  lane-set-other n n-in d = tab-ext (lane_at (set w (4 * i + m) x) n) (lane_at w n) 16 (λ j h. get_or-set_other w (4 * i + m) (4 * j + n) x 0 (omega arith))

-- four words of a lane
abbrev pub quad_at : List ℕ → ℕ → ℕ → ℕ → ℕ → ℕ → Quad
quad_at w m i j k l = record { a = get_or w (4 * i + m) 0; b = get_or w (4 * j + m) 0; c = get_or w (4 * k + m) 0; d = get_or w (4 * l + m) 0 }

-- four words put in their places in a lane
abbrev pub put_at : List ℕ → ℕ → ℕ → ℕ → ℕ → ℕ → Quad → List ℕ
put_at w m i j k l q = set (set (set (set w (4 * i + m) q.a) (4 * j + m) q.b) (4 * k + m) q.c) (4 * l + m) q.d

-- a step on four words of a lane is that step on the lane
module _ (w : List ℕ) (m i j k l : ℕ) (long : length w ≡ 64) (m-in : m < 4) (i-in : i < 16) (j-in : j < 16) (k-in : k < 16) (l-in : l < 16) where
  pub stepped : (f : Quad → Quad) → OneLane m (step_at f (i ∷ j ∷ k ∷ l ∷ [])) w (put_at w m i j k l (f (quad_at w m i j k l)))
  unfolding step_at pick put
  stepped f =
      let q = f (quad_at w m i j k l) in
      let w1 = set w (4 * i + m) q.a in
      let w2 = set w1 (4 * j + m) q.b in
      let w3 = set w2 (4 * k + m) q.c in
      let e1 : length w1 ≡ 64 = length-set w _ _ ∙ long in
      let e2 : length w2 ≡ 64 = length-set w1 _ _ ∙ e1 in
      let e3 : length w3 ≡ 64 = length-set w2 _ _ ∙ e2 in
      record {
        long = rw (length-set, length-set, length-set, length-set);
        here = rw (lane-set w3 m l q.d e3 m-in l-in, lane-set w2 m k q.c e2 m-in k-in, lane-set w1 m j q.b e1 m-in j-in, lane-set w m i q.a long m-in i-in, get_or-lane w m i i-in, get_or-lane w m j j-in, get_or-lane w m k k-in, get_or-lane w m l l-in);
        others = λ n n-in d.
            lane-set-other w3 m l q.d e3 m-in l-in n n-in d
            ∙ lane-set-other w2 m k q.c e2 m-in k-in n n-in d
            ∙ lane-set-other w1 m j q.b e1 m-in j-in n n-in d
            ∙ lane-set-other w m i q.a long m-in i-in n n-in d;
      }

-- ---- the same step in each lane

pub in_four : (P : ℕ → Type 0) → P 0 → P 1 → P 2 → P 3 → (m : ℕ) → m < 4 → P m
in_four P a b c d zero h = a
in_four P a b c d (suc zero) h = b
in_four P a b c d (suc (suc zero)) h = c
in_four P a b c d (suc (suc (suc zero))) h = d
in_four P a b c d (suc (suc (suc (suc m)))) h = absurd (omega arith)

pub four : (f : List ℕ → List ℕ) (w w1 w2 w3 w4 : List ℕ) → OneLane 0 f w w1 → OneLane 1 f w1 w2 → OneLane 2 f w2 w3 → OneLane 3 f w3 w4 → AllLanes f w w4
four f w w1 w2 w3 w4 a b c d = record {
  long = d.long ∙ c.long ∙ b.long ∙ a.long;
  each =
      in_four (λ m. lane w4 m ≡ f (lane w m))
      (d.others 0 (omega arith) (omega arith) ∙ c.others 0 (omega arith) (omega arith) ∙ b.others 0 (omega arith) (omega arith) ∙ a.here)
      (d.others 1 (omega arith) (omega arith) ∙ c.others 1 (omega arith) (omega arith) ∙ b.here ∙ ap f (a.others 1 (omega arith) (omega arith)))
      (d.others 2 (omega arith) (omega arith) ∙ c.here ∙ ap f (b.others 2 (omega arith) (omega arith) ∙ a.others 2 (omega arith) (omega arith)))
      (d.here ∙ ap f (c.others 3 (omega arith) (omega arith) ∙ b.others 3 (omega arith) (omega arith) ∙ a.others 3 (omega arith) (omega arith)));
}

pub all_same : (w : List ℕ) → AllLanes (λ s. s) w w
all_same w = record { long = refl; each = λ m h. refl }

-- one step after another
pub all_then : {f g : List ℕ → List ℕ} {w u v : List ℕ} → AllLanes f w u → AllLanes g u v → AllLanes (λ s. g (f s)) w v
all_then {f} {g} a b = record { long = b.long ∙ a.long; each = λ m h. b.each m h ∙ ap g (a.each m h) }

-- the same map in other words
pub all_is : {f g : List ℕ → List ℕ} {w v : List ℕ} → ((s : List ℕ) → g s ≡ f s) → AllLanes f w v → AllLanes g w v
all_is {w = w} e a = record { long = a.long; each = λ m h. a.each m h ∙ sym (e (lane w m)) }
