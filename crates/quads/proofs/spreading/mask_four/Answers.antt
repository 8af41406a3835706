-- Four words of each lane, one behind the other. Assumes nothing.
use Rattle.quads.proofs.Masking.{masked-then}
use Rattle.quads.proofs.spreading.mask_four.Goals as goal

pub returns : goal.returns
returns c = masked-then (masked-then (masked-then c.mask_words.ensures c.mask_words-2.ensures) c.mask_words-3.ensures) c.mask_words-4.ensures
