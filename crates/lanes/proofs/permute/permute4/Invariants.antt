-- The loop's invariant: each lane is as after the rounds so far. Assumes nothing.
use Rattle.lanes.specs.Lanes.{AllLanes}
use Rattle.lanes.proofs.permute.permute4.Given as goal

abbrev pub invariant-loop : goal.invariant-loop
invariant-loop g l = AllLanes (g.W.Way.rounds l.counter) l.initial.w l.w
