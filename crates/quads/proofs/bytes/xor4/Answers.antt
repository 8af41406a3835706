-- Block by block. Assumes nothing.
use Rattle.quads.specs.Quads.{nth}
use Rattle.quads.proofs.Laws.{four_are}
use Rattle.quads.proofs.bytes.xor4.Goals as goal

pub returns : goal.returns
unfolding nth
returns c =
    four_are _ _ c.xor.ensures c.xor-2.ensures c.xor-3.ensures c.xor-4.ensures
