-- Six words loaded, and zeros between. Assumes nothing.
use Rattle.words.specs.Sequence.{tab, zeros}
use Rattle.words.specs.Block.{word_at}
use Rattle.words.proofs.Lists.{tail_part}
use Rattle.mem.specs.Mem.{start_words}
use Rattle.mem.proofs.start.start_words.Goals as goal

pub returns : goal.returns
unfolding start_words word_at tab zeros
returns c =
    let key = c.args.key.now in
    let nonce = c.args.nonce.now in
    rw (
      c.load_word-k3.ensures,
      c.load_word-k2.ensures,
      c.load_word-k1.ensures,
      c.load_word-k0.ensures,
      c.load_word-n1.ensures,
      c.load_word-n0.ensures,
      tail_part 8 nonce,
      tail_part 8 key,
      tail_part 16 key,
      tail_part 24 key,
    )
