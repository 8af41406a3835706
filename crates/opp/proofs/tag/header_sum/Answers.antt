-- The masks are the plan's, so the call gives the sum. Assumes nothing.
use Rattle.words.specs.Sequence.{times}
use Rattle.mem.specs.Mem.{mask_at, E}
use Rattle.blockplan.specs.Plan.{absorb_at}
use Rattle.blockplan.specs.Pass.{made_at, under, stepping}
use Rattle.opp.specs.Opp.{padded, opp_sum}
use Rattle.opp.proofs.tag.header_sum.Goals as goal

pub returns : goal.returns
unfolding opp_sum absorb_at padded E mask_at times made_at under stepping
returns c = c.absorb.ensures
