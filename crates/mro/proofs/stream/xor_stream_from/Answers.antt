-- The tag's stream, written out. Assumes nothing.
use Rattle.mro.specs.Streams.{stream_from, streamed_from, onward, xored}
use Rattle.mro.proofs.stream.xor_stream_from.Goals as goal

pub returns : goal.returns
unfolding stream_from streamed_from onward xored
returns c = c.xor_blocks.ensures
