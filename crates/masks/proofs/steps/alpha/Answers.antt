-- A literal of sixteen words is the definition's list. Assumes nothing.
use mathlib.Core.Path.{◌≡◌, ap}
use mathlib.Core.List.{List, [], ◌∷◌, ◌++◌}
use Prim.Native.Nat.{ℕ}
use lib.ListN.{get_or, drop}
use Rattle.words.specs.Sequence.{tab}
use Rattle.words.specs.Block.{Block}
use Rattle.words.proofs.Blocks.{block-is}
use Rattle.words.proofs.Arrays.{array-block}
use Rattle.masks.specs.Steps.{alpha, alpha_w}
use Rattle.masks.proofs.steps.alpha.Goals as goal

alpha-words : (s : List ℕ) → Block s
    → alpha s ≡ get_or s 1 0 ∷ get_or s 2 0 ∷ get_or s 3 0 ∷ get_or s 4 0 ∷ get_or s 5 0 ∷ get_or s 6 0 ∷ get_or s 7 0 ∷ get_or s 8 0 ∷ get_or s 9 0 ∷ get_or s 10 0 ∷ get_or s 11 0 ∷ get_or s 12 0 ∷ get_or s 13 0 ∷ get_or s 14 0 ∷ get_or s 15 0 ∷ alpha_w (get_or s 0 0) (get_or s 5 0) ∷ []
unfolding alpha tab
alpha-words s b = ap (λ (t : List ℕ). drop 1 t ++ (alpha_w (get_or s 0 0) (get_or s 5 0) ∷ [])) (block-is s b)

pub returns : goal.returns
unfolding alpha_w
returns c =
    let s = c.args.s in
    let h : Block s = array-block _ _ c.well_formed.0 in
    rw (alpha-words s h, c.shifted.ensures, c.rotate_left.ensures)
