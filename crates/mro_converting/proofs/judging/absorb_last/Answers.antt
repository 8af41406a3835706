-- The array has the leftover in front and zeros behind it. Assumes nothing.
use mathlib.Core.Path.{ap, ◌∙◌}
use lib.ListN.{length}
use Rattle.words.specs.Sequence.{zeros, tab}
use Rattle.words.specs.Block.{block_of, bytes_of, xor_bytes}
use Rattle.blockplan.proofs.Leftovers.{padded-rest}
use Rattle.mro_converting.proofs.judging.absorb_last.Goals as goal

pub returns : goal.returns
unfolding zeros tab
returns c =
    let a = c.args in
    let s = a.s.now in
    let made = xor_bytes s (bytes_of a.stream) in
    let block = c.load.ensures ∙ ap block_of c.xor_leftover.ensures ∙ padded-rest made (length s) 128 in
    rw (c.xor.ensures, c.encipher.ensures, block)
