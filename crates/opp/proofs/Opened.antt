-- OPP is lawful: its tag has 32 bytes, its ciphertext is as long as the message, and opening and sealing undo each other. Assumes nothing.
use mathlib.Core.List.{List}
use Prim.Native.Nat.{ℕ}
use Rattle.words.specs.Block.{Block}
use Rattle.mem.proofs.Laws.{E-undo}
use Rattle.blockplan.specs.Lawful.{Lawful}
use Rattle.blockplan.proofs.Tags.{length-tag_bytes, bytes-tag_bytes}
use Rattle.blockplan.proofs.Ciphered.{length-ciphered, ciphered-undo}
use Rattle.opp.specs.Opp.{opp_tag, seal_at, open_at, opp_stream, opp_cipher, opp_plain, opp_mode}

pub opp-lawful : (rounds : ℕ) (start : List ℕ) → Block start → Lawful (opp_mode rounds start)
unfolding opp_mode opp_tag opp_cipher opp_plain seal_at open_at
opp-lawful rounds start b = record {
  tag-long = λ header message. length-tag_bytes _;
  tag-bytes = λ header message. bytes-tag_bytes _;
  cipher-long = λ tag message. length-ciphered (seal_at rounds start) (opp_stream rounds start) message;
  plain-long = λ tag cipher. length-ciphered (open_at rounds start) (opp_stream rounds start) cipher;
  undo = λ tag. ciphered-undo (seal_at rounds start) (open_at rounds start) (opp_stream rounds start) (λ i. E-undo rounds start b i 0 1);
}
