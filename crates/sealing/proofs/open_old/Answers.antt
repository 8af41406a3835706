-- What both openings do, under the old start. Assumes nothing.
use Rattle.sealing.specs.Sealing.{open_old_call}
use Rattle.sealing.proofs.open_old.Goals as goal

pub returns : goal.returns
unfolding open_old_call
returns c = c.open_from.ensures
