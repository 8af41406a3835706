-- The calls, one inside the other. Assumes nothing.
use Rattle.words.specs.Sequence.{tab, zeros}
use Rattle.mro.proofs.sums.tag_under.Goals as goal

pub returns : goal.returns
unfolding zeros tab
returns c = rw (c.encipher.ensures, c.xor.ensures)
