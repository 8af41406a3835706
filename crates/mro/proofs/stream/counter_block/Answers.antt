-- The four words and the count are the counter's block. Assumes nothing.
use Rattle.words.proofs.Arrays.{array-block}
use Rattle.mro.proofs.Streams.{counter-words}
use Rattle.mro.proofs.stream.counter_block.Goals as goal

pub returns : goal.returns
returns c = rw (counter-words _ (array-block _ _ c.well_formed.0) _)
