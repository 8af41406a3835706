-- The stream from a block on, its mask given: what functions promise each other; no passage of document 01. Assumes nothing.
use Rattle.std.specs.Prelude.{List, ℕ, ◌+◌}
use Rattle.words.specs.Block.{xor_block}
use Rattle.mem.specs.Mem.{encipher}
use Rattle.mro.specs.Mro.{counter}

-- block n + i of the stream under a mask
unfoldable pub stream_from : ℕ → List ℕ → List ℕ → ℕ → ℕ → List ℕ
stream_from rounds mask tag n i = encipher rounds mask (counter tag (n + i))

-- a block xored with it
unfoldable pub streamed_from : ℕ → List ℕ → List ℕ → ℕ → ℕ → List ℕ → List ℕ
streamed_from rounds mask tag n i block = xor_block block (stream_from rounds mask tag n i)

-- block n + i of a stream
unfoldable pub onward : (ℕ → List ℕ) → ℕ → ℕ → List ℕ
onward k n i = k (n + i)

-- a block xored with block i of a stream
unfoldable pub xored : (ℕ → List ℕ) → ℕ → List ℕ → List ℕ
xored k i block = xor_block block (k i)
