-- A literal of sixteen words is the definition's list, and back-meets says the rest. Assumes nothing.
use mathlib.Core.Path.{◌≡◌, ap}
use mathlib.Core.List.{List, [], ◌∷◌}
use Prim.Native.Nat.{ℕ}
use lib.ListN.{get_or, take}
use lib.Bits.{bit_xor}
use Rattle.words.specs.Sequence.{tab}
use Rattle.words.specs.Word.{rot_r, shl}
use Rattle.words.specs.Block.{Block}
use Rattle.words.proofs.Blocks.{block-is}
use Rattle.words.proofs.Arrays.{array-block}
use Rattle.back_steps.specs.BackSteps.{back_alpha}
use Rattle.back_steps.proofs.BackAlpha.{alpha-undo}
use Rattle.back_steps.proofs.Laws.{back-meets}
use Rattle.back_steps.proofs.back.back_alpha.Goals as goal

back_alpha-words : (s : List ℕ) → Block s
    → back_alpha s ≡ rot_r 53 (bit_xor (get_or s 15 0) (shl 13 (get_or s 4 0))) ∷ get_or s 0 0 ∷ get_or s 1 0 ∷ get_or s 2 0 ∷ get_or s 3 0 ∷ get_or s 4 0 ∷ get_or s 5 0 ∷ get_or s 6 0 ∷ get_or s 7 0 ∷ get_or s 8 0 ∷ get_or s 9 0 ∷ get_or s 10 0 ∷ get_or s 11 0 ∷ get_or s 12 0 ∷ get_or s 13 0 ∷ get_or s 14 0 ∷ []
unfolding back_alpha tab
back_alpha-words s b = ap (λ (t : List ℕ). rot_r 53 (bit_xor (get_or s 15 0) (shl 13 (get_or s 4 0))) ∷ take 15 t) (block-is s b)

pub returns : goal.returns
returns c =
    let s = c.args.s in
    let h : Block s = array-block _ _ c.well_formed.0 in
    back-meets alpha-undo s _ h (rw (back_alpha-words s h, c.rotate_right-w.ensures, c.shift_left.ensures))
