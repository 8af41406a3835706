-- The loop's invariant: the first i words of each block are in. Assumes nothing.
use mathlib.Core.Path.{refl, ap, ◌∙◌}
use mathlib.Core.List.{List}
use Prim.Native.Nat.{ℕ, ◌+◌, ◌*◌}
use native.Mathlib.Omega.{arith}
use lib.ListN.{get_or}
use lib.Bits.{bit_xor}
use Rattle.words.proofs.Loops.{filling-none, filling-more, filling-done}
use Rattle.quads.proofs.Laws.{four_are, xor-lane-block}
use Rattle.quads.proofs.masked.gather.Goals as goal

pub loop-i-init : goal.loop-i-init
loop-i-init g c = (filling-none _ refl, (filling-none _ refl, (filling-none _ refl, filling-none _ refl)))

pub loop-i-preserved : goal.loop-i-preserved
loop-i-preserved g c =
    let at = c.loop-i in
    let a = c.args in (
      filling-more at.invariant.0 (omega arith) (ap (bit_xor (get_or a.w (4 * at.i + 0) 0)) c.word.ensures),
      (
        filling-more at.invariant.1.0 (omega arith) (ap (bit_xor (get_or a.w (4 * at.i + 1) 0)) c.word-in-loop-i.ensures),
        (
          filling-more at.invariant.1.1.0 (omega arith) (ap (bit_xor (get_or a.w (4 * at.i + 2) 0)) c.word-in-loop-i-2.ensures),
          filling-more at.invariant.1.1.1 (omega arith) (ap (bit_xor (get_or a.w (4 * at.i + 3) 0)) c.word-in-loop-i-3.ensures),
        ),
      ),
    )

pub returns : goal.returns
returns g c =
    let at = c.loop-i in
    let a = c.args in
    let mask : ℕ → List ℕ = g.M.Masks.mask a.masks.now in
    four_are _ _
    (filling-done at.invariant.0 (omega arith) ∙ xor-lane-block a.w 0 (mask 0))
    (filling-done at.invariant.1.0 (omega arith) ∙ xor-lane-block a.w 1 (mask 1))
    (filling-done at.invariant.1.1.0 (omega arith) ∙ xor-lane-block a.w 2 (mask 2))
    (filling-done at.invariant.1.1.1 (omega arith) ∙ xor-lane-block a.w 3 (mask 3))
