-- The message from the parcel's tag, the tag from the message, and what their comparison leaves. Assumes nothing.
use mathlib.Core.Path.{◌≡◌, ap, ap₂, ◌∙◌}
use mathlib.Core.List.{List, ◌++◌}
use Prim.Native.Nat.{ℕ, ◌-◌}
use native.Mathlib.Omega.{arith}
use lib.ListN.{length, take, drop}
use lib.Seq.{length-take-le, take_at}
use Rattle.words.specs.Block.{Bytes}
use Rattle.words.proofs.Lists.{tail_part}
use Rattle.blockplan.specs.Plan.{tag_bytes}
use Rattle.blockplan.specs.Parcel.{message_of, cipher_part, tag_part}
use Rattle.blockplan.specs.Compare.{verified}
use Rattle.blockplan.proofs.Tags.{tag-of-parcel}
use Rattle.blockplan.proofs.Parcels.{message-long, opened-is}
use Rattle.mro.specs.Mro.{mro_tag, mro_mode}
use Rattle.mro.proofs.Opened.{mro-lawful}
use Rattle.mro.proofs.open.Goals as goal

pub returns : goal.returns
unfolding mro_mode mro_tag message_of cipher_part tag_part
returns c =
    let a = c.args in
    let parcel = a.parcel.now in
    let header = a.header.now in
    let old = a.out.now in
    let n = length parcel - 32 in
    let mode = mro_mode a.rounds a.start in
    let law = mro-lawful a.rounds a.start in
    let message = message_of mode parcel in
    let stream = c.xor_stream in
    let out = stream.new.out in
    let all : Bytes parcel = record { bytes = λ i. (c.type_inv.parcel i).fits } in
    let tag = tag-of-parcel parcel _ all (omega arith) (rw (tail_part n parcel) at c.load_tag-tag.ensures) in
    let short : length (take n parcel) ≡ n = length-take-le n parcel (omega arith) in
    let streamed : out ≡ message ++ drop n old = rw (tag, short) at stream.ensures in
    let front : take n out ≡ message = ap (take n) streamed ∙ take_at message (drop n old) n (message-long mode law header parcel (omega arith)) in
    let expected : tag_bytes c.tag_block-expected.result ≡ mode.tag header message = rw (c.tag_block-expected.ensures, front) in
    c.verify.ensures ∙ ap₂ (λ (t l : List ℕ). verified t parcel l) expected streamed ∙ opened-is mode law header parcel old (omega arith)
