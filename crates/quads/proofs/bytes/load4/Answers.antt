-- Four loads, each from its own offset. Assumes nothing.
use mathlib.Core.Path.{ap, ◌∙◌}
use Rattle.words.specs.Block.{block_of}
use Rattle.words.proofs.Lists.{tail_part}
use Rattle.blockplan.specs.Plan.{block_at}
use Rattle.quads.proofs.Laws.{four_are}
use Rattle.quads.proofs.bytes.load4.Goals as goal

pub returns : goal.returns
unfolding block_at
returns c =
    let s = c.args.s.now in
    four_are _ _ c.load.ensures (c.load-2.ensures ∙ ap block_of (tail_part 128 s)) (c.load-3.ensures ∙ ap block_of (tail_part 256 s))
    (c.load-4.ensures ∙ ap block_of (tail_part 384 s))
