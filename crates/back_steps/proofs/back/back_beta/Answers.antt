-- The calls in turn give the definition, and back-meets says the rest. Assumes nothing.
use mathlib.Core.Path.{◌≡◌, ap}
use mathlib.Core.List.{List}
use Prim.Native.Nat.{ℕ}
use lib.ListN.{get_or}
use lib.Bits.{bit_xor}
use Rattle.words.specs.Sequence.{tab}
use Rattle.words.specs.Word.{shl}
use Rattle.words.proofs.Arrays.{array-block}
use Rattle.back_steps.specs.Tables.{beta_table}
use Rattle.back_steps.specs.BackSteps.{beta_run, beta_side, beta_word, back_beta}
use Rattle.back_steps.proofs.Undoing.{beta-undo}
use Rattle.back_steps.proofs.Laws.{back-meets}
use Rattle.back_steps.proofs.back.back_beta.Goals as goal

side-is : (b p : List ℕ) → p ≡ tab (beta_run b 0) 16 → bit_xor (bit_xor (get_or p 15 0) (get_or b 15 0)) (shl 13 (get_or p 5 0)) ≡ beta_side b
unfolding beta_side beta_run tab
side-is b p e = ap (λ (t : List ℕ). bit_xor (bit_xor (get_or t 15 0) (get_or b 15 0)) (shl 13 (get_or t 5 0))) e

pub returns : goal.returns
unfolding back_beta beta_word beta_table
returns c =
    let start = c in
    let s = start.args.s in
    let side = side-is s _ c.beta_run-p.ensures in
    back-meets beta-undo s _ (array-block _ _ start.well_formed.0)
    (rw (c.beta_run.ensures, c.choose.ensures, c.shift_left.ensures, side))
