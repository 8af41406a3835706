-- Four blocks more in each turn. Assumes nothing.
use mathlib.Core.Bool.{not}
use lib.Dec.{eqb}
use Rattle.opp_run_blocks.proofs.Joined.{Running}
use Rattle.opp_run_blocks.proofs.fours.pass_fours.Given as goal

abbrev pub invariant-loop-i : goal.invariant-loop-i
invariant-loop-i g l = Running (not (eqb g.row.OPENING 0)) l.rounds l.run l.s l.initial.out l.count l.out l.sum l.i
