-- The loop's invariant: the first i words are in. Assumes nothing.
use Prim.Native.Nat.{◌+◌}
use Rattle.words.proofs.Loops.{Filling}
use Rattle.masks.specs.Run.{neighbours}
use Rattle.runs.specs.Kinds.{neighbours_in}
use Rattle.runs.proofs.windows.mask_at.Given as goal

abbrev pub invariant-loop-i : goal.invariant-loop-i
invariant-loop-i l = Filling (λ j. neighbours (neighbours_in l.kind) l.run (l.n + j)) 16 l.mask l.i
