-- The laws of the mask steps: each keeps blocks and exclusive or, and any two commute. Assumes nothing.
use mathlib.Core.Path.{◌≡◌, refl, sym, ap, ap₂, ◌∙◌}
use mathlib.Core.List.{List, [], ◌∷◌}
use Prim.Native.Nat.{ℕ, suc, ◌-◌, ◌^◌, ◌<◌}
use native.Mathlib.Omega.{arith}
use native.Mathlib.Decide.{dec_lt}
use lib.Dec.{lit<}
use lib.ListN.{length, get_or, drop, length-append, length-drop, get_or-append}
use lib.Seq.{get_or_at, get_or-drop}
use lib.Bits.{bit_xor}
use Rattle.words.specs.Word.{rot_l, shl}
use Rattle.words.specs.Block.{Block, xor_block}
use Rattle.words.proofs.Maps.{Keeps, Commute, turn}
use Rattle.words.proofs.Linear.{OnPair, pair-xor, word-rot_l, word_shl}
use Rattle.words.proofs.Blocks.{block-of, block-ext, xor-block, get_or-xor, xor_block-swap}
use Rattle.masks.specs.Steps.{alpha, alpha_w, beta, gamma}

-- f keeps exclusive or of blocks
abbrev pub Linear : (List ℕ → List ℕ) → Type 0
Linear f = (s t : List ℕ) → Block s → Block t → f (xor_block s t) ≡ xor_block (f s) (f t)

-- ---- one step of alpha

pub pair-alpha_w : OnPair alpha_w
unfolding alpha_w
pair-alpha_w = pair-xor (rot_l 53) (shl 13) (word-rot_l 53 (lit< tt)) (word_shl 13)

module _ (s : List ℕ) (b : Block s) where
  fifteen : length (drop 1 s) ≡ 15
  fifteen = length-drop 1 s ∙ ap (λ (n : ℕ). n - 1) b.long

  -- words 1 to 15 move down
  pub alpha-moves : (i : ℕ) → i < 15 → get_or (alpha s) i 0 ≡ get_or s (suc i) 0
  unfolding alpha
  alpha-moves i h =
      get_or-append (drop 1 s) (alpha_w (get_or s 0 0) (get_or s 5 0) ∷ []) 0 i (rw fifteen h)
      ∙ get_or-drop 1 s i 0 ∙ ap (λ (n : ℕ). get_or s n 0) (omega arith)

  -- word 15 is new
  pub alpha-new : get_or (alpha s) 15 0 ≡ alpha_w (get_or s 0 0) (get_or s 5 0)
  unfolding alpha
  alpha-new = get_or_at (drop 1 s) (alpha_w (get_or s 0 0) (get_or s 5 0)) [] 0 15 fifteen

  pub alpha-block : Block (alpha s)
  unfolding alpha
  alpha-block = block-of (alpha s) (simp (length-append, length-drop) (omega arith)) word
    where
      word : (i : ℕ) → i < 16 → get_or (alpha s) i 0 < 2 ^ 64
      word i h = elim (dec_lt i 15) [
        | yes p ↦ rw (alpha-moves i p) (b.words (suc i))
        | no q ↦ let e : i ≡ 15 = omega arith in rw (e, alpha-new) (pair-alpha_w.fits (get_or s 0 0) (get_or s 5 0) (b.words 0) (b.words 5))
      ]

pub alpha-linear : Linear alpha
alpha-linear s t hs ht =
    let ha = alpha-block s hs in
    let hb = alpha-block t ht in
    let hx = xor-block s t hs ht in
    block-ext (alpha (xor_block s t)) (xor_block (alpha s) (alpha t)) (alpha-block (xor_block s t) hx) (xor-block (alpha s) (alpha t) ha hb)
    (λ i h. word i h ∙ sym (get_or-xor (alpha s) (alpha t) i h))
  where
    word : (i : ℕ) → i < 16 → get_or (alpha (xor_block s t)) i 0 ≡ bit_xor (get_or (alpha s) i 0) (get_or (alpha t) i 0)
    word i h = elim (dec_lt i 15) [
      | yes p ↦ alpha-moves (xor_block s t) (xor-block s t hs ht) i p ∙ get_or-xor s t (suc i) (omega arith)
          ∙ sym (ap₂ bit_xor (alpha-moves s hs i p) (alpha-moves t ht i p))
      | no q ↦ let e : i ≡ 15 = omega arith in
          rw e
          (alpha-new (xor_block s t) (xor-block s t hs ht)
          ∙ ap₂ alpha_w (get_or-xor s t 0 (lit< tt)) (get_or-xor s t 5 (lit< tt))
          ∙ pair-alpha_w.keeps (get_or s 0 0) (get_or s 5 0) (get_or t 0 0) (get_or t 5 0) (hs.words 0) (hs.words 5) (ht.words 0) (ht.words 5)
          ∙ sym (ap₂ bit_xor (alpha-new s hs) (alpha-new t ht)))
    ]

pub beta-block : Keeps Block beta
unfolding beta
beta-block s b = xor-block (alpha s) s (alpha-block s b) b

pub gamma-block : Keeps Block gamma
unfolding gamma
gamma-block s b =
    let ha = alpha-block s b in
    xor-block (xor_block (alpha (alpha s)) (alpha s)) s (xor-block (alpha (alpha s)) (alpha s) (alpha-block (alpha s) ha) ha) b

-- ---- steps keep exclusive or

pub beta-linear : Linear beta
unfolding beta
beta-linear s t hs ht = ap (λ (a : List ℕ). xor_block a (xor_block s t)) (alpha-linear s t hs ht) ∙ xor_block-swap (alpha s) (alpha t) s t

pub gamma-linear : Linear gamma
unfolding gamma
gamma-linear s t hs ht =
    let once = alpha-linear s t hs ht in
    let twice = ap alpha once ∙ alpha-linear (alpha s) (alpha t) (alpha-block s hs) (alpha-block t ht) in
    ap (λ (a : List ℕ). xor_block a (xor_block s t))
    (ap₂ xor_block twice once ∙ xor_block-swap (alpha (alpha s)) (alpha (alpha t)) (alpha s) (alpha t))
    ∙ xor_block-swap (xor_block (alpha (alpha s)) (alpha s)) (xor_block (alpha (alpha t)) (alpha t)) s t

-- ---- steps commute

-- a linear map that commutes with alpha commutes with beta and gamma
module _ (f : List ℕ → List ℕ) (linear : Linear f) (with-alpha : Commute Block f alpha) where
  with-beta : Commute Block f beta
  unfolding beta
  with-beta s h =
      linear (alpha s) s (alpha-block s h) h ∙ ap (λ (a : List ℕ). xor_block a (f s)) (with-alpha s h)

  with-gamma : Commute Block f gamma
  unfolding gamma
  with-gamma s h =
      let ha = alpha-block s h in
      let haa = alpha-block (alpha s) ha in
      linear (xor_block (alpha (alpha s)) (alpha s)) s (xor-block (alpha (alpha s)) (alpha s) haa ha) h
      ∙ ap (λ (a : List ℕ). xor_block a (f s))
      (linear (alpha (alpha s)) (alpha s) haa ha ∙ ap₂ xor_block (with-alpha (alpha s) ha ∙ ap alpha (with-alpha s h)) (with-alpha s h))

pub alpha-beta : Commute Block alpha beta
alpha-beta = with-beta alpha alpha-linear (λ s h. refl)

pub alpha-gamma : Commute Block alpha gamma
alpha-gamma = with-gamma alpha alpha-linear (λ s h. refl)

pub beta-gamma : Commute Block beta gamma
beta-gamma = with-gamma beta beta-linear (turn alpha beta alpha-beta)
