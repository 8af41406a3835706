-- The loop's invariant: r is the block after the rounds so far. Assumes nothing.
use Rattle.std.proofs.Common.{◌≡◌}
use Rattle.permutation.proofs.permute.permute.Given as goal

abbrev pub invariant-loop : goal.invariant-loop
invariant-loop g l = l.r ≡ g.W.Way.rounds l.counter l.initial.r
