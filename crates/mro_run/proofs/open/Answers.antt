-- The message from the parcel's tag, the tag from the message, and what their comparison leaves. Assumes nothing.
use mathlib.Core.Path.{◌≡◌, ap, ap₂, ◌∙◌}
use mathlib.Core.List.{List, ◌++◌}
use Prim.Native.Nat.{ℕ, ◌-◌}
use native.Mathlib.Omega.{arith}
use lib.ListN.{length, take, drop, length-drop, length-take}
use lib.Seq.{length-take-le, take_at}
use Rattle.words.specs.Block.{Bytes}
use Rattle.words.proofs.Lists.{tail_part}
use Rattle.words.proofs.Blocks.{bytes_drop}
use Rattle.blockplan.specs.Plan.{whole, tag_bytes}
use Rattle.blockplan.specs.Parcel.{message_of, cipher_part, tag_part}
use Rattle.blockplan.specs.Compare.{verified}
use Rattle.blockplan.proofs.Tags.{tag-of-block}
use Rattle.blockplan.proofs.Parcels.{message-long, opened-is}
use Rattle.mro.specs.Mro.{mro_tag, mro_mode}
use Rattle.mro.proofs.Opened.{mro-lawful}
use Rattle.mro_run.proofs.open.Goals as goal

pub load_tag-tag-requires : goal.load_tag-tag-requires
load_tag-tag-requires c = rw tail_part (simp length-drop (omega arith))

pub slice_bounds-xor_stream-end : goal.slice_bounds-xor_stream-end
slice_bounds-xor_stream-end c = simp length-take (omega arith)

pub xor_stream-requires : goal.xor_stream-requires
xor_stream-requires c =
    (omega arith, simp length-take (omega arith))

pub slice_bounds-tag_block-end-2 : goal.slice_bounds-tag_block-end-2
slice_bounds-tag_block-end-2 c = simp length-take (omega arith)

pub tag_block-expected-requires : goal.tag_block-expected-requires
unfolding whole
tag_block-expected-requires c =
    (omega arith, simp length-take (omega arith))

pub returns : goal.returns
unfolding mro_mode mro_tag message_of cipher_part tag_part
returns c =
    let a = c.args in
    let parcel = a.parcel.now in
    let most = c.requires.1.1.0 in
    let header = a.header.now in
    let old = a.out.now in
    let n = length parcel - 32 in
    let first = take 16 a.run.now in
    let mode = mro_mode a.rounds first in
    let law = mro-lawful a.rounds first in
    let message = message_of mode parcel in
    let load = c.load_tag-tag in
    let stream = c.xor_stream in
    let out = stream.new.out in
    let all : Bytes parcel = record { bytes = λ i. (c.type_inv.parcel i).fits } in
    let exact : length (tag_part parcel) ≡ 32 = simp length-drop (omega (arith, most)) in
    let tag : tag_bytes load.result ≡ tag_part parcel = ap tag_bytes (rw (tail_part n parcel) at load.ensures) ∙ tag-of-block (tag_part parcel) (bytes_drop n parcel all) exact in
    let short : length (take n parcel) ≡ n = length-take-le n parcel (omega (arith, most)) in
    let streamed : out ≡ message ++ drop n old = rw (tag, short) at stream.ensures in
    let front : take n out ≡ message = ap (take n) streamed ∙ take_at message (drop n old) n (message-long mode law header parcel (omega (arith, most))) in
    let expected : tag_bytes c.tag_block-expected.result ≡ mode.tag header message = rw (c.tag_block-expected.ensures, front) in
    c.verify.ensures ∙ ap₂ (λ (t l : List ℕ). verified t parcel l) expected streamed ∙ opened-is mode law header parcel old (omega (arith, most))
