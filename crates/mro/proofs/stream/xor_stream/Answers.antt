-- The stream from its first block on, under gamma of the start. Assumes nothing.
use Rattle.words.specs.Sequence.{times}
use Rattle.mem.specs.Mem.{mask_at, E}
use Rattle.mro.specs.Mro.{mro_stream, streamed, mro_cipher}
use Rattle.mro.specs.Streams.{xored}
use Rattle.mro.proofs.Streams.{onward-none}
use Rattle.mro.proofs.stream.xor_stream.Goals as goal

pub returns : goal.returns
unfolding mro_cipher streamed mro_stream E mask_at times xored
returns c =
    let a = c.args in
    let s = a.s.now in
    let stream = c.from_start-stream.ensures in
    rw (onward-none, stream.0, stream.1.0, stream.1.1) at c.xor_blocks.ensures
