-- The same step in each lane. Assumes nothing.
use Rattle.lanes.proofs.Laws.{four}
use Rattle.lanes.proofs.g.g4.Goals as goal

pub returns : goal.returns
returns g c =
    four _ _ _ _ _ _ c.g_lane.ensures c.g_lane-2.ensures c.g_lane-3.ensures c.g_lane-4.ensures
