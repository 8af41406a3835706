-- The lines of G on four words, in two halves: words stay words, and back lines undo them. Assumes nothing.
use Rattle.std.proofs.Common.{◌≡◌, ℕ, ◌-◌, ◌^◌, ◌<◌, ap, ◌∙◌, arith, lit<}
use lib.Bits.{bit_xor, xor_lt}
use Rattle.words.specs.Word.{add_w, sub_w, rot_r, rot_l}
use Rattle.words.specs.Undo.{Undo}
use Rattle.words.proofs.Xor.{xor-cancel-r}
use Rattle.words.proofs.Words.{add_w-lt, sub_w-lt, sub_w-add_w, add_w-sub_w, rot_r-lt, rot_r-back}
use Rattle.words.proofs.Maps.{undo-then}
use Rattle.permutation.specs.declared.g.Quad.{Quad}
use Rattle.permutation.specs.Permutation.{g_of, back_g_of}

-- four words of 64 bits
pub record Words (q : Quad) : Type 0 where
  pub a : q.a < 2 ^ 64
  pub b : q.b < 2 ^ 64
  pub c : q.c < 2 ^ 64
  pub d : q.d < 2 ^ 64

-- ---- one line

-- a rotation by n of an exclusive or, and its way back
module _ (n : ℕ) (n-lt : n < 64) where
  turn-lt : (x y : ℕ) → x < 2 ^ 64 → y < 2 ^ 64 → rot_r n (bit_xor x y) < 2 ^ 64
  turn-lt x y hx hy = rot_r-lt n (64 - n) (omega arith) (bit_xor x y) (xor_lt 64 x y hx hy)

  back_turn-lt : (x y : ℕ) → x < 2 ^ 64 → y < 2 ^ 64 → bit_xor (rot_l n x) y < 2 ^ 64
  unfolding rot_l
  back_turn-lt x y hx hy = xor_lt 64 (rot_r (64 - n) x) y (rot_r-lt (64 - n) n (omega arith) x hx) hy

  back_turn-turn : (x y : ℕ) → x < 2 ^ 64 → y < 2 ^ 64 → bit_xor (rot_l n (rot_r n (bit_xor x y))) y ≡ x
  unfolding rot_l
  back_turn-turn x y hx hy = rw (rot_r-back n (64 - n) (omega arith) (bit_xor x y) (xor_lt 64 x y hx hy)) (xor-cancel-r x y)

  turn-back_turn : (x y : ℕ) → x < 2 ^ 64 → y < 2 ^ 64 → rot_r n (bit_xor (bit_xor (rot_l n x) y) y) ≡ x
  unfolding rot_l
  turn-back_turn x y hx hy = rw (xor-cancel-r (rot_r (64 - n) x) y) (rot_r-back (64 - n) n (omega arith) x hx)

-- ---- four lines, and G

-- G's first four lines and its last four differ in the two rotations
unfoldable half : ℕ → ℕ → Quad → Quad
half m n q =
    let a = add_w q.a q.b in
    let d = rot_r m (bit_xor q.d a) in
    let c = add_w q.c d in
    let b = rot_r n (bit_xor q.b c) in
    record { a = a; b = b; c = c; d = d }

-- such four lines undone, the last one first
unfoldable back_half : ℕ → ℕ → Quad → Quad
back_half m n q =
    let b = bit_xor (rot_l n q.b) q.c in
    let c = sub_w q.c q.d in
    let d = bit_xor (rot_l m q.d) q.a in
    let a = sub_w q.a b in
    record { a = a; b = b; c = c; d = d }

-- two fours are equal when their words are
pub quad : (p q : Quad) → p.a ≡ q.a → p.b ≡ q.b → p.c ≡ q.c → p.d ≡ q.d → p ≡ q
quad p q ea eb ec ed = λ i. record { a = ea i; b = eb i; c = ec i; d = ed i }

module _ (m n : ℕ) (m-lt : m < 64) (n-lt : n < 64) where
  half-words : (q : Quad) → Words q → Words (half m n q)
  unfolding half
  half-words q w =
      let ha = add_w-lt q.a q.b in
      let hd = turn-lt m m-lt q.d (add_w q.a q.b) w.d ha in
      let hc = add_w-lt q.c (rot_r m (bit_xor q.d (add_w q.a q.b))) in
      record { a = ha; b = turn-lt n n-lt q.b _ w.b hc; c = hc; d = hd }

  back_half-words : (q : Quad) → Words q → Words (back_half m n q)
  unfolding back_half
  back_half-words q w = record {
    a = sub_w-lt _ _;
    b = back_turn-lt n n-lt q.b q.c w.b w.c;
    c = sub_w-lt _ _;
    d = back_turn-lt m m-lt q.d q.a w.d w.a;
  }

  back_half-half : (q : Quad) → Words q → back_half m n (half m n q) ≡ q
  unfolding half back_half
  back_half-half q w =
      let a = add_w q.a q.b in
      let d = rot_r m (bit_xor q.d a) in
      let c = add_w q.c d in
      let eb = back_turn-turn n n-lt q.b c w.b (add_w-lt q.c d) in
      quad (back_half m n (half m n q)) q
      (ap (sub_w a) eb ∙ sub_w-add_w q.a q.b w.a w.b)
      eb
      (sub_w-add_w q.c d w.c (turn-lt m m-lt q.d a w.d (add_w-lt q.a q.b)))
      (back_turn-turn m m-lt q.d a w.d (add_w-lt q.a q.b))

  half-back_half : (q : Quad) → Words q → half m n (back_half m n q) ≡ q
  unfolding half back_half
  half-back_half q w =
      let b = bit_xor (rot_l n q.b) q.c in
      let d = bit_xor (rot_l m q.d) q.a in
      let ea = add_w-sub_w q.a b w.a (back_turn-lt n n-lt q.b q.c w.b w.c) in
      let ed = ap (λ (x : ℕ). rot_r m (bit_xor d x)) ea ∙ turn-back_turn m m-lt q.d q.a w.d w.a in
      let ec = ap (add_w (sub_w q.c q.d)) ed ∙ add_w-sub_w q.c q.d w.c w.d in
      quad (half m n (back_half m n q)) q
      ea
      (ap (λ (x : ℕ). rot_r n (bit_xor b x)) ec ∙ turn-back_turn n n-lt q.b q.c w.b w.c)
      ec
      ed

  half-undo : Undo Words (half m n) (back_half m n)
  half-undo = record { forth-keeps = half-words; back-keeps = back_half-words; back-forth = back_half-half; forth-back = half-back_half }

pub g-undo : Undo Words g_of back_g_of
unfolding g_of back_g_of half back_half
g-undo = undo-then (half-undo 32 24 (lit< tt) (lit< tt)) (half-undo 16 63 (lit< tt) (lit< tt))
