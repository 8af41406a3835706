-- The ciphertext of the message, and behind it the tag. Assumes nothing.
use mathlib.Core.Path.{◌≡◌}
use mathlib.Core.Bool.{false}
use Prim.Native.Nat.{◌+◌, ◌-◌}
use native.Mathlib.Omega.{arith}
use lib.ListN.{length}
use Rattle.words.specs.Block.{Block, Bytes}
use Rattle.words.proofs.Blocks.{bytes_take}
use Rattle.words.proofs.Arrays.{array-block}
use Rattle.mem.specs.Mem.{E}
use Rattle.blockplan.specs.Parcel.{message_of, cipher_part}
use Rattle.blockplan.specs.Pass.{under, planned}
use Rattle.blockplan.proofs.Parcels.{sealed-as, message-long}
use Rattle.opp.specs.Opp.{seal_at, opp_cipher, opp_mode}
use Rattle.opp.specs.Pass.{written, plain}
use Rattle.opp.proofs.Passes.{tag_is}
use Rattle.opp.proofs.Opened.{opp-lawful}
use Rattle.opp_converting.proofs.Resealed.{message-bytes}
use Rattle.opp_converting.proofs.reseal.Goals as goal

pub returns : goal.returns
unfolding opp_mode message_of cipher_part written plain opp_cipher seal_at under planned E
returns c =
    let a = c.args in
    let parcel = a.parcel.now in
    let header = a.header.now in
    let s = cipher_part parcel in
    let from : Block a.from = array-block _ _ c.well_formed.0 in
    let to : Block a.to = array-block _ _ c.well_formed.1.0 in
    let all : Bytes parcel = record { bytes = λ i. (c.type_inv.parcel i).fits } in
    let bytes : Bytes s = bytes_take (length parcel - 32) parcel all in
    let m = message_of (opp_mode a.rounds a.from) parcel in
    let long : length m ≡ length parcel - 32 = message-long (opp_mode a.rounds a.from) (opp-lawful a.rounds a.from from) header parcel (omega arith) in
    let all-long : length parcel - 32 + 32 ≡ length parcel = omega arith in
    let pass = c.reseal_all-passed.ensures in
    let tag = tag_is a.rounds a.to m to (message-bytes a.rounds a.from s from bytes) false header _ pass.all-checked pass.last-mask c.tag_block.ensures in
    rw all-long at
    (sealed-as (opp_mode a.rounds a.to) (opp-lawful a.rounds a.to to) header m (length parcel - 32) long _ a.out.now _ _ tag
    (rw long at pass.all-written) c.store_tag.ensures)
