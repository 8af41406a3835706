-- The message's sum from the parcel's bytes, and the tag from it. Assumes nothing.
use mathlib.Core.Path.{◌≡◌, sym, ◌∙◌}
use Prim.Native.Nat.{◌-◌}
use native.Mathlib.Omega.{arith}
use lib.ListN.{length}
use Rattle.words.specs.Block.{Bytes}
use Rattle.words.proofs.Lists.{tail_part}
use Rattle.words.proofs.Arrays.{array-block}
use Rattle.blockplan.specs.Parcel.{message_of, cipher_part, tag_part}
use Rattle.blockplan.proofs.Tags.{tag-of-parcel}
use Rattle.blockplan.proofs.Parcels.{message-long}
use Rattle.mro.specs.Mro.{mro_mode}
use Rattle.mro.proofs.Absorbed.{tag-block-is}
use Rattle.mro.proofs.Opened.{mro-lawful}
use Rattle.mro_converting.proofs.Judged.{blocks-message}
use Rattle.mro_converting.proofs.judging.opened_tag.Goals as goal

pub returns : goal.returns
unfolding mro_mode message_of cipher_part tag_part
returns c =
    let a = c.args in
    let parcel = a.parcel.now in
    let header = a.header.now in
    let n = length parcel - 32 in
    let mode = mro_mode a.rounds a.from in
    let message = message_of mode parcel in
    let all : Bytes parcel = record { bytes = λ i. (c.type_inv.parcel i).fits } in
    let tag = tag-of-parcel parcel _ all (omega arith) (rw (tail_part n parcel) at c.load_tag-tag.ensures) in
    let sum = rw (tag, c.beta.ensures, ← blocks-message a.rounds a.from parcel) at c.absorb_opened-sum.ensures in
    let long : n ≡ length message = sym (message-long mode (mro-lawful a.rounds a.from) header parcel (omega arith)) in
    c.tag_from.ensures ∙ tag-block-is a.rounds a.to header message _ n (array-block _ _ c.well_formed.1.0) sum long
