-- No round leaves each lane as it was, and one more round is taken of what the rounds before it left. Assumes nothing.
use Rattle.lanes.proofs.Laws.{all_same, all_then, all_is}
use Rattle.lanes.proofs.permute.permute4.Goals as goal

pub loop-init : goal.loop-init
loop-init g c = all_is g.met.W.Way.laws.no-rounds (all_same _)

pub loop-preserved : goal.loop-preserved
loop-preserved g c = all_is (g.met.W.Way.laws.one-more c.loop.counter) (all_then c.loop.invariant c.round4.ensures)
