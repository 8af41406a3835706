-- The loop's invariant: the first 4 * i blocks are in the sum, and the rest is the part behind them. Assumes nothing.
use mathlib.Core.Path.{◌≡◌, refl, ap, ◌∙◌}
use mathlib.Core.Bool.{false}
use Prim.Native.Nat.{◌*◌, ◌/◌, ◌≤◌, ◌+◌}
use native.Mathlib.Nat.{zero-add}
use native.Mathlib.Omega.{arith}
use lib.ListN.{length, drop, length-drop}
use Rattle.words.specs.Sequence.{fold}
use Rattle.words.proofs.Lists.{tail_part, next_part}
use Rattle.masks.specs.Run.{mask_from}
use Rattle.blockplan.specs.Plan.{whole, has_left, xor_over}
use Rattle.blockplan.specs.Pass.{made_at, under}
use Rattle.quads.proofs.Moved.{fours-le, whole-moved, left-moved, absorbed-more}
use borrow.Author.Rules.{rules}
use Rattle.runs.specs.Kinds.{neighbours_in}
use Rattle.run_sums.proofs.absorb.Goals as goal

pub loop-i-init : goal.loop-i-init
unfolding xor_over fold
loop-i-init c = (refl, (search rules, (zero-add _, (refl, c.zero-sum.ensures))))

pub absorb_four-next-requires : goal.absorb_four-next-requires
unfolding whole
absorb_four-next-requires c = (omega arith, omega arith)

pub loop-i-preserved : goal.loop-i-preserved
loop-i-preserved c =
    let at = c.loop-i in
    let a = c.args in
    let s = a.s.now in
    let rest = at.rest.now in
    let here : 512 * at.i ≡ 128 * (4 * at.i) = omega arith in
    let on : 4 * at.i + 4 ≡ 4 * (at.i + 1) = omega arith in
    let more = absorbed-more a.rounds (neighbours_in a.kind) a.run.now s (4 * at.i) 4 at.sum _ at.invariant.1.1.1.1 (rw (at.invariant.1.1.1.0, here) at c.absorb_four-next.ensures) in (
      refl,
      (
        omega arith,
        (
          simp (tail_part, length-drop) (omega arith),
          (next_part 512 at.i rest s at.invariant.1.1.1.0, more ∙ ap (xor_over (made_at (under false a.rounds (mask_from (neighbours_in a.kind) a.run.now)) s)) on),
        ),
      ),
    )

pub absorb_ones-requires : goal.absorb_ones-requires
unfolding whole
absorb_ones-requires c = omega arith

pub returns : goal.returns
unfolding has_left
returns c =
    let at = c.loop-i in
    let a = c.args in
    let s = a.s.now in
    let n = 4 * (length s / 512) in
    let most : n ≤ whole s = fours-le s in
    let part = drop (128 * n) s in
    let far : 512 * at.i ≡ 128 * n = omega arith in
    let i : 4 * at.i ≡ n = omega arith in
    let all : n + whole part ≡ whole s = rw (whole-moved s n most) (omega (arith, most)) in
    let sum = absorbed-more a.rounds (neighbours_in a.kind) a.run.now s n (whole part) at.sum _ (rw i at at.invariant.1.1.1.1) refl in
    rw (c.absorb_ones.ensures, at.invariant.1.1.1.0, far, sum, left-moved s n most, all)
