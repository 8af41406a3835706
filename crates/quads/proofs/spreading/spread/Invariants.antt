-- The loop's invariant: the first i words of each lane are in. Assumes nothing.
use lib.ListN.{get_or}
use Rattle.quads.specs.Quads.{nth}
use Rattle.quads.proofs.Laws.{Spreading}
use Rattle.quads.proofs.spreading.spread.Given as goal

abbrev pub invariant-loop-i : goal.invariant-loop-i
invariant-loop-i l = Spreading (λ m i. get_or (nth l.f m) i 0) l.w l.i
