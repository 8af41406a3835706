-- Eight calls, one for each group. Assumes nothing.
use Rattle.permutation.specs.Way.{stepped}
use Rattle.lanes.proofs.Laws.{all_then, all_is}
use Rattle.lanes.proofs.round.round4.Goals as goal

pub returns : goal.returns
unfolding stepped
returns g c =
    all_is g.met.W.Way.laws.one-round
    (all_then (all_then (all_then (all_then (all_then (all_then (all_then c.step4.ensures c.step4-2.ensures) c.step4-3.ensures) c.step4-4.ensures) c.step4-5.ensures) c.step4-6.ensures) c.step4-7.ensures) c.step4-8.ensures)
