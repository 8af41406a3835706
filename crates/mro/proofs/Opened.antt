-- MRO is lawful, whatever the start: its tag has 32 bytes, and the same stream twice gives the bytes back. Assumes nothing.
use mathlib.Core.Path.{◌≡◌, ap, ◌∙◌}
use mathlib.Core.List.{List}
use Prim.Native.Nat.{ℕ}
use Rattle.words.specs.Block.{Bytes}
use Rattle.mem.proofs.Laws.{xor-undo}
use Rattle.blockplan.specs.Plan.{ciphered}
use Rattle.blockplan.specs.Lawful.{Lawful}
use Rattle.blockplan.proofs.Tags.{length-tag_bytes, bytes-tag_bytes}
use Rattle.blockplan.proofs.Ciphered.{length-ciphered, bytes-ciphered, ciphered-undo}
use Rattle.mro.specs.Streams.{xored}
use Rattle.mro.proofs.Streams.{formed, formed-block, xored-formed}
use Rattle.mro.specs.Mro.{mro_tag, mro_stream, streamed, mro_cipher, mro_mode}

xored-back : (k : ℕ → List ℕ) (s : List ℕ) → Bytes s → ciphered (xored k) k (ciphered (xored k) k s) ≡ s
unfolding xored
xored-back k s h =
    xored-formed k (ciphered (xored k) k s) ∙ ap (ciphered (xored (formed k)) (formed k)) (xored-formed k s)
    ∙ (ciphered-undo (xored (formed k)) (xored (formed k)) (formed k) (λ i. xor-undo (formed k i) (formed-block k i))).back-forth s h

pub mro-lawful : (rounds : ℕ) (start : List ℕ) → Lawful (mro_mode rounds start)
unfolding mro_mode mro_tag mro_cipher streamed xored
mro-lawful rounds start = record {
  tag-long = λ header message. length-tag_bytes _;
  tag-bytes = λ header message. bytes-tag_bytes _;
  cipher-long = λ tag s. length-ciphered (streamed rounds start tag) (mro_stream rounds start tag) s;
  plain-long = λ tag s. length-ciphered (streamed rounds start tag) (mro_stream rounds start tag) s;
  undo = λ tag. record {
    forth-keeps = bytes-ciphered (streamed rounds start tag) (mro_stream rounds start tag);
    back-keeps = bytes-ciphered (streamed rounds start tag) (mro_stream rounds start tag);
    back-forth = xored-back (mro_stream rounds start tag);
    forth-back = xored-back (mro_stream rounds start tag);
  };
}
