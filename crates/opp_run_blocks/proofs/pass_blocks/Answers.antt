-- The fours, and behind them the rest. Assumes nothing.
use mathlib.Core.Path.{◌≡◌}
use mathlib.Core.Bool.{not}
use lib.Dec.{eqb}
use Prim.Native.Nat.{◌*◌, ◌/◌, ◌≤◌, ◌+◌}
use native.Mathlib.Omega.{arith}
use lib.ListN.{length, drop, length-drop}
use Rattle.words.proofs.Lists.{tail_part}
use Rattle.blockplan.specs.Plan.{whole}
use Rattle.quads.proofs.Moved.{fours-le, whole-moved}
use Rattle.opp_run_blocks.proofs.Joined.{joined}
use Rattle.opp_run_blocks.proofs.pass_blocks.Goals as goal

pub pass_ones-requires : goal.pass_ones-requires
pass_ones-requires g c =
    let a = c.args in
    let s = a.s.now in
    let n = 4 * (length s / 512) in
    let most : n ≤ whole s = fours-le s in
    (rw (tail_part (128 * n) s, whole-moved s n most) (omega (arith, most)), simp (tail_part, length-drop) (omega arith))

pub returns : goal.returns
returns g c =
    let a = c.args in
    let s = a.s.now in
    let n = 4 * (length s / 512) in
    let most : n ≤ whole s = fours-le s in
    let e : n + whole (drop (128 * n) s) ≡ whole s = rw (whole-moved s n most) (omega (arith, most)) in
    let rest = rw (tail_part (128 * n) s) at c.pass_ones.ensures in
    rw (← e) (joined (not (eqb g.row.OPENING 0)) a.rounds a.run.now s n (whole (drop (128 * n) s)) a.out.now _ _ _ _ c.pass_fours-sum.ensures rest)
