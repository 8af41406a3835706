-- Words of lanes xored with those of masks. Assumes nothing.
use mathlib.Core.Path.{◌≡◌, ap, ◌∙◌}
use mathlib.Core.Logic.{◌≢◌}
use mathlib.Core.List.{List}
use Prim.Native.Nat.{ℕ, ◌+◌, ◌*◌, ◌<◌}
use native.Mathlib.Omega.{arith}
use native.Mathlib.Decide.{dec_lt}
use lib.ListN.{length, get_or, set, length-set}
use lib.Seq.{get_or-set_same, get_or-set_other}
use lib.Bits.{bit_xor}
use Rattle.words.specs.Block.{xor_block}
use Rattle.words.proofs.Lists.{tab-ext}
use Rattle.masks.specs.Run.{neighbours, mask_from}
use Rattle.lanes.specs.Lanes.{lane_at, lane, AllLanes}
use Rattle.lanes.proofs.Laws.{in_four}
use Rattle.quads.specs.declared.Four.{Four}
use Rattle.quads.specs.Quads.{FourAre, Spread, MaskedWords, Masked}
use Rattle.quads.proofs.Laws.{xor-lane}

-- word p is xored with y
record OneWord (p y : ℕ) (w v : List ℕ) : Type 0 where
  long : length v ≡ length w
  here : get_or v p 0 ≡ bit_xor (get_or w p 0) y
  others : (q : ℕ) → q ≢ p → get_or v q 0 ≡ get_or w q 0

one_word : (p y : ℕ) (w v : List ℕ) → p < length w → v ≡ set w p (bit_xor (get_or w p 0) y) → OneWord p y w v
one_word p y w v h e = record {
  long = ap length e ∙ length-set w p (bit_xor (get_or w p 0) y);
  here = ap (λ (l : List ℕ). get_or l p 0) e ∙ get_or-set_same w p (bit_xor (get_or w p 0) y) 0 h;
  others = λ q d. ap (λ (l : List ℕ). get_or l q 0) e ∙ get_or-set_other w p q (bit_xor (get_or w p 0) y) 0 d;
}

-- one word of each lane
module _ (masks : List ℕ) (n i : ℕ) (w w1 w2 w3 w4 : List ℕ) (long : length w ≡ 64) (i-in : i < 16)
    (e1 : w1 ≡ set w (4 * i + 0) (bit_xor (get_or w (4 * i + 0) 0) (get_or masks (n + 0 + i) 0)))
    (e2 : w2 ≡ set w1 (4 * i + 1) (bit_xor (get_or w1 (4 * i + 1) 0) (get_or masks (n + 1 + i) 0)))
    (e3 : w3 ≡ set w2 (4 * i + 2) (bit_xor (get_or w2 (4 * i + 2) 0) (get_or masks (n + 2 + i) 0)))
    (e4 : w4 ≡ set w3 (4 * i + 3) (bit_xor (get_or w3 (4 * i + 3) 0) (get_or masks (n + 3 + i) 0))) where
  a : OneWord (4 * i + 0) (get_or masks (n + 0 + i) 0) w w1
  a = one_word _ _ w w1 (omega arith) e1

  b : OneWord (4 * i + 1) (get_or masks (n + 1 + i) 0) w1 w2
  b = one_word _ _ w1 w2 (omega (arith, a.long)) e2

  c : OneWord (4 * i + 2) (get_or masks (n + 2 + i) 0) w2 w3
  c = one_word _ _ w2 w3 (omega (arith, a.long, b.long)) e3

  d : OneWord (4 * i + 3) (get_or masks (n + 3 + i) 0) w3 w4
  d = one_word _ _ w3 w4 (omega (arith, a.long, b.long, c.long)) e4

  -- a word of another number
  apart : (m j : ℕ) → m < 4 → j ≢ i → get_or w4 (4 * j + m) 0 ≡ get_or w (4 * j + m) 0
  apart m j h q = d.others _ (omega arith) ∙ c.others _ (omega arith) ∙ b.others _ (omega arith) ∙ a.others _ (omega arith)

  this : (m : ℕ) → m < 4 → get_or w4 (4 * i + m) 0 ≡ bit_xor (get_or w (4 * i + m) 0) (get_or masks (n + m + i) 0)
  this =
      in_four (λ m. get_or w4 (4 * i + m) 0 ≡ bit_xor (get_or w (4 * i + m) 0) (get_or masks (n + m + i) 0))
      (d.others _ (omega arith) ∙ c.others _ (omega arith) ∙ b.others _ (omega arith) ∙ a.here)
      (d.others _ (omega arith) ∙ c.others _ (omega arith) ∙ b.here ∙ ap (λ (x : ℕ). bit_xor x (get_or masks (n + 1 + i) 0)) (a.others _ (omega arith)))
      (d.others _ (omega arith) ∙ c.here ∙ ap (λ (x : ℕ). bit_xor x (get_or masks (n + 2 + i) 0)) (b.others _ (omega arith) ∙ a.others _ (omega arith)))
      (d.here ∙ ap (λ (x : ℕ). bit_xor x (get_or masks (n + 3 + i) 0)) (c.others _ (omega arith) ∙ b.others _ (omega arith) ∙ a.others _ (omega arith)))

  pub words-masked : MaskedWords masks n i 1 w w4
  words-masked = record {
    long = d.long ∙ c.long ∙ b.long ∙ a.long;
    inside = λ m j h lo hi. let e : j ≡ i = omega arith in rw e (this m h);
    before = λ m j h lt. apart m j h (omega arith);
    behind = λ m j h le. apart m j h (omega arith);
  }

-- more words behind
pub masked-then : {masks : List ℕ} {n i k l : ℕ} {w u v : List ℕ} → MaskedWords masks n i k w u → MaskedWords masks n (i + k) l u v → MaskedWords masks n i (k + l) w v
masked-then {masks} {n} {i} {k} {l} {w} {u} {v} p q = record {
  long = q.long ∙ p.long;
  inside = λ m j h lo hi. elim (dec_lt j (i + k)) [
    | yes lt ↦ q.before m j h lt ∙ p.inside m j h lo lt
    | no ge ↦ q.inside m j h (omega arith) (omega arith) ∙ ap (λ (x : ℕ). bit_xor x (get_or masks (n + m + j) 0)) (p.behind m j h (omega arith))
  ];
  before = λ m j h lt. q.before m j h (omega arith) ∙ p.before m j h lt;
  behind = λ m j h le. q.behind m j h (omega arith) ∙ p.behind m j h (omega arith);
}

-- all sixteen
pub all-masked : (masks : List ℕ) (n : ℕ) (w v : List ℕ) → MaskedWords masks n 0 16 w v → Masked (λ m. mask_from 0 masks (n + m)) w v
unfolding mask_from neighbours lane lane_at
all-masked masks n w v p = record {
  long = p.long;
  each = λ m h.
      tab-ext (λ i. get_or v (4 * i + m) 0) (λ i. bit_xor (get_or w (4 * i + m) 0) (get_or masks (n + m + i) 0)) 16 (λ i lt. p.inside m i h (omega arith) (omega arith))
      ∙ xor-lane w m (λ i. get_or masks (n + m + i) 0);
}

-- each block masked in its lane, turned there, and masked again
pub turned : (turn : List ℕ → List ℕ) (f b : ℕ → List ℕ) {r : Four} {w u v : List ℕ} → Spread w b → Masked f w u → AllLanes turn u v → FourAre r (λ m. xor_block (lane v m) (f m))
    → FourAre r (λ m. xor_block (turn (xor_block (b m) (f m))) (f m))
turned turn f b put under after out = record {
  each = λ m h. out.each m h ∙ ap (λ (s : List ℕ). xor_block s (f m)) (after.each m h ∙ ap turn (under.each m h ∙ ap (λ (s : List ℕ). xor_block s (f m)) (put.each m h)));
}
