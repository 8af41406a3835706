-- Lanes and blocks filled word by word, and four blocks named one by one. Assumes nothing.
use mathlib.Core.Path.{◌≡◌, refl, sym, ap, ap₂, ◌∙◌}
use mathlib.Core.List.{List, ◌++◌}
use Prim.Native.Nat.{ℕ, ◌+◌, ◌-◌, ◌*◌, ◌<◌, ◌≤◌}
use native.Mathlib.Omega.{arith}
use lib.ListN.{length, take, drop, get_or, set, length-set}
use lib.Bits.{bit_xor}
use borrow.Rule.Slice.PartMut.{put_mid}
use Rattle.words.specs.Sequence.{tab, cat, fold}
use Rattle.words.specs.Block.{bytes_of, xor_at, xor_block}
use Rattle.words.proofs.Lists.{get_or-tab, tab-ext, cat-ext, stored, filled, appended}
use Rattle.masks.specs.Run.{neighbours}
use Rattle.lanes.specs.Lanes.{lane}
use Rattle.lanes.proofs.Laws.{length-lane, get_or-lane, lane-set, lane-set-other, in_four}
use Rattle.quads.specs.declared.Four.{Four}
use Rattle.quads.specs.Quads.{nth, FourAre}

-- a word of a mask, its two places in the sum exchanged
pub word_moved : (kind : ℕ) (run : List ℕ) (n i m y : ℕ) → y ≡ neighbours kind run (n + i + m) → y ≡ neighbours kind run (n + m + i)
word_moved kind run n i m y e = let q : n + i + m ≡ n + m + i = omega arith in e ∙ ap (neighbours kind run) q

-- ---- lanes filled from the front

-- one more word in each lane
module _ (g : ℕ → ℕ → ℕ) (w : List ℕ) (i x0 x1 x2 x3 : ℕ) (long : length w ≡ 64) (i-in : i < 16) where
  spread-more : ((m : ℕ) → m < 4 → take i (lane w m) ≡ tab (g m) i) → x0 ≡ g 0 i → x1 ≡ g 1 i → x2 ≡ g 2 i → x3 ≡ g 3 i
      → (m : ℕ) → m < 4
      → take (i + 1) (lane (set (set (set (set w (4 * i + 0) x0) (4 * i + 1) x1) (4 * i + 2) x2) (4 * i + 3) x3) m) ≡ tab (g m) (i + 1)
  spread-more inv e0 e1 e2 e3 =
      let w1 = set w (4 * i + 0) x0 in
      let w2 = set w1 (4 * i + 1) x1 in
      let w3 = set w2 (4 * i + 2) x2 in
      let w4 = set w3 (4 * i + 3) x3 in
      let l1 : length w1 ≡ 64 = length-set w _ _ ∙ long in
      let l2 : length w2 ≡ 64 = length-set w1 _ _ ∙ l1 in
      let l3 : length w3 ≡ 64 = length-set w2 _ _ ∙ l2 in
      let o1 = lane-set-other w 0 i x0 long (omega arith) i-in in
      let o2 = lane-set-other w1 1 i x1 l1 (omega arith) i-in in
      let o3 = lane-set-other w2 2 i x2 l2 (omega arith) i-in in
      let o4 = lane-set-other w3 3 i x3 l3 (omega arith) i-in in
      let more : (m x : ℕ) → m < 4 → lane w4 m ≡ set (lane w m) i x → x ≡ g m i → take (i + 1) (lane w4 m) ≡ tab (g m) (i + 1) =
      λ m x h e q. ap (take (i + 1)) e ∙ stored (g m) i (lane w m) x (omega (arith, length-lane w m)) (inv m h) q in
      in_four (λ m. take (i + 1) (lane w4 m) ≡ tab (g m) (i + 1))
      (more 0 x0 (omega arith) (o4 0 (omega arith) (omega arith) ∙ o3 0 (omega arith) (omega arith) ∙ o2 0 (omega arith) (omega arith) ∙ lane-set w 0 i x0 long (omega arith) i-in) e0)
      (more 1 x1 (omega arith) (o4 1 (omega arith) (omega arith) ∙ o3 1 (omega arith) (omega arith) ∙ lane-set w1 1 i x1 l1 (omega arith) i-in ∙ ap (λ (s : List ℕ). set s i x1) (o1 1 (omega arith) (omega arith))) e1)
      (more 2 x2 (omega arith) (o4 2 (omega arith) (omega arith) ∙ lane-set w2 2 i x2 l2 (omega arith) i-in ∙ ap (λ (s : List ℕ). set s i x2) (o2 2 (omega arith) (omega arith) ∙ o1 2 (omega arith) (omega arith))) e2)
      (more 3 x3 (omega arith) (lane-set w3 3 i x3 l3 (omega arith) i-in ∙ ap (λ (s : List ℕ). set s i x3) (o3 3 (omega arith) (omega arith) ∙ o2 3 (omega arith) (omega arith) ∙ o1 3 (omega arith) (omega arith))) e3)

-- the first i words of lane m are g m 0, g m 1, .., g m (i - 1)
pub record Spreading (g : ℕ → ℕ → ℕ) (w : List ℕ) (i : ℕ) : Type 0 where
  pub most : i ≤ 16
  pub long : length w ≡ 64
  pub front : (m : ℕ) → m < 4 → take i (lane w m) ≡ tab (g m) i

module _ {g : ℕ → ℕ → ℕ} where
  pub spreading-none : (w : List ℕ) → length w ≡ 64 → Spreading g w 0
  unfolding tab
  spreading-none w e = record { most = omega arith; long = e; front = λ m h. refl }

  module _ {w : List ℕ} {i : ℕ} (here : Spreading g w i) where
    pub spreading-more : {x0 x1 x2 x3 : ℕ} → i < 16 → x0 ≡ g 0 i → x1 ≡ g 1 i → x2 ≡ g 2 i → x3 ≡ g 3 i
        → Spreading g (set (set (set (set w (4 * i + 0) x0) (4 * i + 1) x1) (4 * i + 2) x2) (4 * i + 3) x3) (i + 1)
    spreading-more {x0} {x1} {x2} {x3} h e0 e1 e2 e3 = record {
      most = omega arith;
      long = rw (length-set, length-set, length-set, length-set) here.long;
      front = spread-more g w i x0 x1 x2 x3 here.long h here.front e0 e1 e2 e3;
    }

    pub spreading-done : 16 ≤ i → (m : ℕ) → m < 4 → lane w m ≡ tab (g m) 16
    spreading-done h m p =
        let e : i ≡ 16 = omega (arith, here.most) in
        filled (g m) 16 (lane w m) (length-lane w m) (rw e at (here.front m p))

-- ---- exclusive or of tables

-- a table of exclusive ors is the exclusive or of a block and a table
pub xor-tab : (s : List ℕ) (f : ℕ → ℕ) → tab (λ i. bit_xor (get_or s i 0) (f i)) 16 ≡ xor_block s (tab f 16)
unfolding xor_block xor_at
xor-tab s f = tab-ext (λ i. bit_xor (get_or s i 0) (f i)) (xor_at s (tab f 16)) 16 (λ i h. ap (bit_xor (get_or s i 0)) (sym (get_or-tab f 16 i h)))

-- and the other way round
tab-xor : (f : ℕ → ℕ) (s : List ℕ) → tab (λ i. bit_xor (f i) (get_or s i 0)) 16 ≡ xor_block (tab f 16) s
unfolding xor_block xor_at
tab-xor f s = tab-ext (λ i. bit_xor (f i) (get_or s i 0)) (xor_at (tab f 16) s) 16 (λ i h. ap (λ (x : ℕ). bit_xor x (get_or s i 0)) (sym (get_or-tab f 16 i h)))

-- four blocks into a sum, word by word
abbrev pub summed_at : List ℕ → Four → ℕ → ℕ
summed_at sum f i = bit_xor (bit_xor (bit_xor (bit_xor (get_or sum i 0) (get_or f.a i 0)) (get_or f.b i 0)) (get_or f.c i 0)) (get_or f.d i 0)

pub sum-tab : (sum : List ℕ) (f : Four) → tab (summed_at sum f) 16 ≡ fold (λ m t. xor_block t (nth f m)) sum 4
unfolding fold nth xor_block xor_at
sum-tab sum f =
    tab-xor (λ i. bit_xor (bit_xor (bit_xor (get_or sum i 0) (get_or f.a i 0)) (get_or f.b i 0)) (get_or f.c i 0)) f.d
    ∙ ap (λ (t : List ℕ). xor_block t f.d) (
    tab-xor (λ i. bit_xor (bit_xor (get_or sum i 0) (get_or f.a i 0)) (get_or f.b i 0)) f.c
    ∙ ap (λ (t : List ℕ). xor_block t f.c) (tab-xor (λ i. bit_xor (get_or sum i 0) (get_or f.a i 0)) f.b)
    )

pub xor-lane : (w : List ℕ) (m : ℕ) (f : ℕ → ℕ) → tab (λ i. bit_xor (get_or w (4 * i + m) 0) (f i)) 16 ≡ xor_block (lane w m) (tab f 16)
xor-lane w m f =
    tab-ext (λ i. bit_xor (get_or w (4 * i + m) 0) (f i)) (λ i. bit_xor (get_or (lane w m) i 0) (f i)) 16 (λ i h. ap (λ (x : ℕ). bit_xor x (f i)) (sym (get_or-lane w m i h)))
    ∙ xor-tab (lane w m) f

pub xor-lane-block : (w : List ℕ) (m : ℕ) (s : List ℕ) → tab (λ i. bit_xor (get_or w (4 * i + m) 0) (get_or s i 0)) 16 ≡ xor_block (lane w m) s
unfolding xor_block xor_at
xor-lane-block w m s = tab-ext (λ i. bit_xor (get_or w (4 * i + m) 0) (get_or s i 0)) (xor_at (lane w m) s) 16 (λ i h. ap (λ (x : ℕ). bit_xor x (get_or s i 0)) (sym (get_or-lane w m i h)))

-- ---- four blocks, one by one

-- block by block
pub four_are : (r : Four) (f : ℕ → List ℕ) → r.a ≡ f 0 → r.b ≡ f 1 → r.c ≡ f 2 → r.d ≡ f 3 → FourAre r f
unfolding nth
four_are r f ea eb ec ed = record { each = in_four (λ m. nth r m ≡ f m) ea eb ec ed }

module _ (r : Four) (f : ℕ → List ℕ) (are : FourAre r f) where
  -- what is written
  pub bytes-are-of : cat (λ m. bytes_of (nth r m)) 4 ≡ cat (λ m. bytes_of (f m)) 4
  bytes-are-of = cat-ext (λ m. bytes_of (nth r m)) (λ m. bytes_of (f m)) 4 (λ m h. ap bytes_of (are.each m h))

  -- what is summed
  pub sum-is-of : (sum : List ℕ) → fold (λ m t. xor_block t (nth r m)) sum 4 ≡ fold (λ m t. xor_block t (f m)) sum 4
  unfolding fold
  sum-is-of sum =
      ap₂ xor_block (ap₂ xor_block (ap₂ xor_block (ap (xor_block sum) (are.each 0 (omega arith))) (are.each 1 (omega arith))) (are.each 2 (omega arith))) (are.each 3 (omega arith))

-- four pieces stored one behind the other
module _ (f : ℕ → List ℕ) (old x1 x2 x3 x4 y2 y3 y4 : List ℕ) (hw : (k : ℕ) → length (f k) ≡ 128) (room : 512 ≤ length old) where
  pub four-stored : x1 ≡ f 0 ++ drop 128 old
      → y2 ≡ f 1 ++ drop 128 (take (length x1 - 128) (drop 128 x1)) → x2 ≡ put_mid 128 (length x1 - 128) x1 y2
      → y3 ≡ f 2 ++ drop 128 (take (length x2 - 256) (drop 256 x2)) → x3 ≡ put_mid 256 (length x2 - 256) x2 y3
      → y4 ≡ f 3 ++ drop 128 (take (length x3 - 384) (drop 384 x3)) → x4 ≡ put_mid 384 (length x3 - 384) x3 y4
      → x4 ≡ cat f 4 ++ drop 512 old
  unfolding cat
  four-stored e1 q2 p2 q3 p3 q4 p4 =
      let e2 : x2 ≡ cat f 2 ++ drop 256 old = p2 ∙ appended f 128 1 old x1 y2 hw (omega arith) e1 q2 in
      let e3 : x3 ≡ cat f 3 ++ drop 384 old = p3 ∙ appended f 128 2 old x2 y3 hw (omega arith) e2 q3 in
      p4 ∙ appended f 128 3 old x3 y4 hw (omega arith) e3 q4
