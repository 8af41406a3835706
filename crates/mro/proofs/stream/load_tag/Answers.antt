-- Four words loaded, and zeros behind them. Assumes nothing.
use mathlib.Core.Path.{sym}
use Rattle.words.specs.Sequence.{tab, zeros}
use Rattle.words.specs.Block.{word_at}
use Rattle.words.proofs.Lists.{tail_part}
use Rattle.blockplan.proofs.Tags.{block-of-tag}
use Rattle.mro.proofs.stream.load_tag.Goals as goal

pub returns : goal.returns
unfolding tab zeros word_at
returns c =
    let t = c.args.tag.now in
    rw (
      c.load_word-t3.ensures,
      c.load_word-t2.ensures,
      c.load_word-t1.ensures,
      c.load_word-t0.ensures,
      tail_part 8 t,
      tail_part 16 t,
      tail_part 24 t,
    )
    (sym (block-of-tag t c.requires))
