-- The leftover, its pad byte, and zeros after them. Assumes nothing.
use mathlib.Core.Path.{◌∙◌}
use Rattle.words.specs.Sequence.{zeros, tab}
use Rattle.blockplan.proofs.Leftovers.{padded-set}
use Rattle.blockplan.proofs.leftover.padded.Goals as goal

pub returns : goal.returns
unfolding zeros tab
returns c = rw c.copy_from_slice.ensures.after at c.load.ensures ∙ padded-set c.args.s.now c.args.pad 128 c.requires
