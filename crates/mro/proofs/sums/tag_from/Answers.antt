-- The calls, one inside the other. Assumes nothing.
use Rattle.words.specs.Sequence.{times}
use Rattle.mem.specs.Mem.{mask_at, E}
use Rattle.mro.proofs.sums.tag_from.Goals as goal

pub returns : goal.returns
unfolding E mask_at times
returns c =
    rw (c.tag_under.ensures, c.beta-2.ensures, c.beta.ensures, c.xor-sum.ensures, c.absorb_all.ensures)
