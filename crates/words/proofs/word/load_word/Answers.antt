-- Eight bytes, low byte first, as the library sums them. Assumes nothing.
use Rattle.std.proofs.Common.{arith}
use Rattle.words.specs.Sequence.{tab}
use Rattle.words.specs.Block.{word_at, le}
use Rattle.words.proofs.Lists.{front}
use Rattle.words.proofs.word.load_word.Goals as goal

pub returns : goal.returns
unfolding word_at le tab
returns c =
    let s = c.args.s.now in
    rw (c.from_le_bytes.ensures, front s 8 c.requires) (omega arith)
