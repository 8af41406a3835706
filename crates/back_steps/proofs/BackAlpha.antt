-- Back alpha undoes alpha, and alpha undoes back alpha. Assumes nothing.
use mathlib.Core.Path.{◌≡◌, refl, ap, ap₂, ◌∙◌}
use mathlib.Core.List.{List}
use Prim.Native.Nat.{ℕ, zero, suc, ◌^◌, ◌<◌}
use native.Mathlib.Omega.{arith}
use native.Mathlib.Decide.{dec_lt}
use lib.Dec.{lit<}
use lib.ListN.{get_or, length-take}
use lib.Seq.{get_or-take}
use lib.Bits.{bit_xor, xor_lt}
use Rattle.words.specs.Word.{rot_r, rot_l, shl}
use Rattle.words.specs.Block.{Block}
use Rattle.words.specs.Undo.{Undo}
use Rattle.words.proofs.Words.{rot_r-lt, rot_r-back, shl_lt}
use Rattle.words.proofs.Xor.{xor-cancel-r}
use Rattle.words.proofs.Blocks.{block-ext, block-of}
use Rattle.masks.specs.Steps.{alpha, alpha_w}
use Rattle.masks.proofs.Laws.{alpha-block, alpha-moves, alpha-new}
use Rattle.back_steps.specs.BackSteps.{back_alpha}

-- word 0 of the block before, rotated left by 53
abbrev turned : List ℕ → ℕ
turned s = bit_xor (get_or s 15 0) (shl 13 (get_or s 4 0))

module _ (s : List ℕ) (b : Block s) where
  turned_lt : turned s < 2 ^ 64
  turned_lt = xor_lt 64 (get_or s 15 0) (shl 13 (get_or s 4 0)) (b.words 15) (shl_lt 13 (get_or s 4 0))

  back_alpha-moves : (i : ℕ) → i < 15 → get_or (back_alpha s) (suc i) 0 ≡ get_or s i 0
  unfolding back_alpha
  back_alpha-moves i h = get_or-take 15 s i 0 h

  back_alpha-block : Block (back_alpha s)
  unfolding back_alpha
  back_alpha-block = block-of (back_alpha s) (simp length-take (omega arith)) word
    where
      word : (i : ℕ) → i < 16 → get_or (back_alpha s) i 0 < 2 ^ 64
      word zero h = rot_r-lt 53 11 refl (turned s) turned_lt
      word (suc i) h = rw (back_alpha-moves i (omega arith)) (b.words i)

  alpha-back_alpha : alpha (back_alpha s) ≡ s
  unfolding back_alpha alpha_w rot_l
  alpha-back_alpha = block-ext (alpha (back_alpha s)) s (alpha-block (back_alpha s) back_alpha-block) b word
    where
      word : (i : ℕ) → i < 16 → get_or (alpha (back_alpha s)) i 0 ≡ get_or s i 0
      word i h = elim (dec_lt i 15) [
        | yes p ↦ alpha-moves (back_alpha s) back_alpha-block i p ∙ back_alpha-moves i p
        | no q ↦ let e : i ≡ 15 = omega arith in
            rw e
            (alpha-new (back_alpha s) back_alpha-block
            ∙ ap₂ (λ (x y : ℕ). bit_xor x (shl 13 y)) (rot_r-back 53 11 refl (turned s) turned_lt) (back_alpha-moves 4 (lit< tt))
            ∙ xor-cancel-r (get_or s 15 0) (shl 13 (get_or s 4 0)))
      ]

back_alpha-alpha : (s : List ℕ) → Block s → back_alpha (alpha s) ≡ s
unfolding back_alpha alpha_w rot_l
back_alpha-alpha s b =
    block-ext (back_alpha (alpha s)) s (back_alpha-block (alpha s) (alpha-block s b)) b word
  where
    word : (i : ℕ) → i < 16 → get_or (back_alpha (alpha s)) i 0 ≡ get_or s i 0
    word zero h =
        ap₂ (λ (x y : ℕ). rot_r 53 (bit_xor x (shl 13 y))) (alpha-new s b) (alpha-moves s b 4 (lit< tt))
        ∙ ap (rot_r 53) (xor-cancel-r (rot_r 11 (get_or s 0 0)) (shl 13 (get_or s 5 0))) ∙ rot_r-back 11 53 refl (get_or s 0 0) (b.words 0)
    word (suc i) h = back_alpha-moves (alpha s) (alpha-block s b) i (omega arith) ∙ alpha-moves s b i (omega arith)

pub alpha-undo : Undo Block alpha back_alpha
alpha-undo = record { forth-keeps = alpha-block; back-keeps = back_alpha-block; back-forth = back_alpha-alpha; forth-back = alpha-back_alpha }
