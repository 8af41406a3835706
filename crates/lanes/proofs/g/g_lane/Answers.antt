-- The step on four words of one lane. Assumes nothing.
use Rattle.std.proofs.Common.{get_or, arith}
use Rattle.permutation.specs.Permutation.{step_at, pick, put}
use Rattle.lanes.proofs.Laws.{stepped}
use Rattle.lanes.proofs.g.g_lane.Goals as goal

pub returns : goal.returns
unfolding step_at pick put
returns g c =
    let a = c.args in
    let r = a.row in
    rw c.g-made.ensures
    (stepped a.w.now a.m (get_or r 0 0) (get_or r 1 0) (get_or r 2 0) (get_or r 3 0) c.told-w (omega arith) (omega arith) (omega arith) (omega arith) (omega arith) g.W.Way.quad)
