-- The calls in turn give the definition, and back-meets says the rest. Assumes nothing.
use mathlib.Core.Path.{◌≡◌, ap}
use mathlib.Core.List.{List}
use Prim.Native.Nat.{ℕ}
use lib.ListN.{get_or}
use lib.Bits.{bit_xor}
use Rattle.words.specs.Sequence.{tab}
use Rattle.words.specs.Word.{shl}
use Rattle.words.proofs.Arrays.{array-block}
use Rattle.back_steps.specs.Tables.{gamma_table}
use Rattle.back_steps.specs.BackSteps.{gamma_run, gamma_side, back_gamma}
use Rattle.back_steps.proofs.Undoing.{gamma-undo}
use Rattle.back_steps.proofs.Laws.{back-meets}
use Rattle.back_steps.proofs.back.back_gamma.Goals as goal

abbrev next16 : List ℕ → List ℕ → ℕ
next16 b p = bit_xor (bit_xor (get_or p 15 0) (get_or p 14 0)) (get_or b 14 0)

abbrev next17 : List ℕ → List ℕ → ℕ
next17 b p = bit_xor (bit_xor (next16 b p) (get_or p 15 0)) (get_or b 15 0)

module _ (b p : List ℕ) (e : p ≡ tab (gamma_run b 0 0) 16) where
  side-16 : bit_xor (next16 b p) (shl 13 (get_or p 5 0)) ≡ gamma_side b 0
  unfolding gamma_side gamma_run tab
  side-16 = ap (λ (t : List ℕ). bit_xor (next16 b t) (shl 13 (get_or t 5 0))) e

  side-17 : bit_xor (next17 b p) (shl 13 (get_or p 6 0)) ≡ gamma_side b 1
  unfolding gamma_side gamma_run tab
  side-17 = ap (λ (t : List ℕ). bit_xor (next17 b t) (shl 13 (get_or t 6 0))) e

pub returns : goal.returns
unfolding back_gamma gamma_table
returns c =
    let start = c in
    let run = c.gamma_run-p.ensures in
    let s = start.args.s in
    back-meets gamma-undo s _ (array-block _ _ start.well_formed.0)
    (rw (
      c.gamma_run.ensures,
      c.gamma_word-2.ensures,
      c.gamma_word.ensures,
      c.shift_left-2.ensures,
      c.shift_left.ensures,
      side-16 s _ run,
      side-17 s _ run,
    ))
