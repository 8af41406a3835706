-- The message's ciphertext in front, its tag behind it. Assumes nothing.
use mathlib.Core.Path.{◌≡◌, ap}
use Prim.Native.Nat.{◌+◌, ◌-◌}
use native.Mathlib.Omega.{arith}
use lib.ListN.{length}
use lib.Seq.{length-take-le}
use Rattle.words.specs.Block.{Bytes}
use Rattle.words.proofs.Lists.{tail_part}
use Rattle.blockplan.specs.Plan.{tag_bytes}
use Rattle.blockplan.specs.Parcel.{message_of, cipher_part, tag_part}
use Rattle.blockplan.proofs.Tags.{tag-of-parcel}
use Rattle.blockplan.proofs.Parcels.{sealed-as, message-long}
use Rattle.mro.specs.Mro.{mro_tag, mro_mode}
use Rattle.mro.proofs.Opened.{mro-lawful}
use Rattle.mro_converting.proofs.reseal.Goals as goal

pub returns : goal.returns
unfolding mro_mode mro_tag message_of cipher_part tag_part
returns c =
    let a = c.args in
    let parcel = a.parcel.now in
    let header = a.header.now in
    let n = length parcel - 32 in
    let from = mro_mode a.rounds a.from in
    let to = mro_mode a.rounds a.to in
    let all : Bytes parcel = record { bytes = λ i. (c.type_inv.parcel i).fits } in
    let tag = tag-of-parcel parcel _ all (omega arith) (rw (tail_part n parcel) at c.load_tag-old_tag.ensures) in
    let short : length (cipher_part parcel) ≡ n = length-take-le n parcel (omega arith) in
    let long : length (message_of from parcel) ≡ n = message-long from (mro-lawful a.rounds a.from) header parcel (omega arith) in
    let all-long : n + 32 ≡ length parcel = omega arith in
    let sealed = c.opened_tag-new_tag in
    rw all-long at
    (sealed-as to (mro-lawful a.rounds a.to) header (message_of from parcel) n long (tag_bytes sealed.result) a.out.now _ _ (ap tag_bytes sealed.ensures)
    (rw (tag, short) at c.xor_streams.ensures) c.store_tag.ensures)
