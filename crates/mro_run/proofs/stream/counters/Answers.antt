-- Four counters. Assumes nothing.
use Rattle.quads.proofs.Laws.{four_are}
use Rattle.mro_run.proofs.stream.counters.Goals as goal

pub returns : goal.returns
returns c =
    four_are _ _ c.counter_block.ensures c.counter_block-2.ensures c.counter_block-3.ensures c.counter_block-4.ensures
