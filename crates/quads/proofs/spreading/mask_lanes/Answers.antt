-- All words, four at a time. Assumes nothing.
use Rattle.quads.proofs.Masking.{masked-then, all-masked}
use Rattle.quads.proofs.spreading.mask_lanes.Goals as goal

pub returns : goal.returns
returns c = all-masked _ c.args.n _ _ (masked-then (masked-then (masked-then c.mask_four.ensures c.mask_four-2.ensures) c.mask_four-3.ensures) c.mask_four-4.ensures)
