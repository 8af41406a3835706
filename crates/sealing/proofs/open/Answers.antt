-- What both openings do, under section 8's start. Assumes nothing.
use Rattle.sealing.specs.Sealing.{open_call}
use Rattle.sealing.proofs.open.Goals as goal

pub returns : goal.returns
unfolding open_call
returns c = c.open_from.ensures
