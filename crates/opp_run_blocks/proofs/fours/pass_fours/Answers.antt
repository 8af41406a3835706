-- Four blocks more in each turn. Assumes nothing.
use mathlib.Core.Path.{◌≡◌, refl}
use mathlib.Core.Bool.{not}
use lib.Dec.{eqb}
use Prim.Native.Nat.{◌/◌, ◌*◌, ◌+◌}
use native.Mathlib.Omega.{arith}
use lib.ListN.{length, length-drop}
use Rattle.words.proofs.Lists.{tail_part}
use Rattle.masks.specs.Run.{mask_from}
use Rattle.blockplan.specs.Plan.{whole}
use Rattle.blockplan.proofs.Passes.{passed_none}
use Rattle.opp_run_blocks.proofs.Joined.{joined}
use borrow.Author.Rules.{rules}
use Rattle.opp_run_blocks.proofs.fours.pass_fours.Goals as goal

pub loop-i-init : goal.loop-i-init
loop-i-init g c =
    record { within = search rules; count-is = refl; long = refl; passed = passed_none (not (eqb g.row.OPENING 0)) _ (mask_from 0 _) _ _ _ c.zero-sum.ensures }

pub pass_four-more-requires : goal.pass_four-more-requires
unfolding whole
pass_four-more-requires g c =
    (omega arith, (rw tail_part (simp length-drop (omega arith)), rw tail_part (simp length-drop (omega arith))))

pub loop-i-preserved : goal.loop-i-preserved
loop-i-preserved g c =
    let at = c.loop-i in
    let a = c.args in
    let s = a.s.now in
    let n = 4 * at.i in
    let e : n + 4 ≡ 4 * (at.i + 1) = omega arith in
    let four = rw (tail_part (128 * n) s) at c.pass_four-more.ensures in record {
      within = omega arith;
      count-is = refl;
      long = omega arith;
      passed = rw (← e) (joined (not (eqb g.row.OPENING 0)) a.rounds a.run.now s n 4 a.out.now _ _ at.sum _ at.invariant.passed four);
    }

pub returns : goal.returns
returns g c =
    let at = c.loop-i in
    let e : at.i ≡ length c.args.s.now / 512 = omega arith in
    rw e at at.invariant.passed
