-- The loop's invariant: the first i words of each lane and of the sum are in. Assumes nothing.
use lib.ListN.{get_or}
use Rattle.words.proofs.Loops.{Filling}
use Rattle.quads.specs.Quads.{nth}
use Rattle.quads.proofs.Laws.{Spreading, summed_at}
use Rattle.quads.proofs.spreading.spread_summed.Given as goal

abbrev pub invariant-loop-i : goal.invariant-loop-i
invariant-loop-i l = Spreading (λ m i. get_or (nth l.f m) i 0) l.w l.i × Filling (summed_at l.sum l.f) 16 l.t l.i
