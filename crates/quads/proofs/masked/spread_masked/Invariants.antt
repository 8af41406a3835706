-- The loop's invariant: the first i words of each lane are in. Assumes nothing.
use Rattle.words.specs.Block.{xor_at}
use Rattle.quads.specs.Quads.{nth}
use Rattle.quads.proofs.Laws.{Spreading}
use Rattle.quads.proofs.masked.spread_masked.Given as goal

abbrev pub invariant-loop-i : goal.invariant-loop-i
invariant-loop-i g l = Spreading (λ m. xor_at (nth l.f m) (g.M.Masks.mask l.masks m)) l.w l.i
