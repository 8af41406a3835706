-- The message, and behind it what was there; kept or cleared by the tag. Assumes nothing.
use mathlib.Core.Path.{◌≡◌}
use mathlib.Core.Bool.{true}
use Prim.Native.Nat.{◌-◌}
use native.Mathlib.Omega.{arith}
use lib.ListN.{length}
use lib.Seq.{length-take-le}
use Rattle.words.specs.Block.{Block, Bytes}
use Rattle.words.proofs.Blocks.{bytes_take}
use Rattle.words.proofs.Arrays.{array-block}
use Rattle.mem.specs.Mem.{D}
use Rattle.blockplan.specs.Parcel.{message_of, cipher_part}
use Rattle.blockplan.specs.Pass.{under, planned}
use Rattle.blockplan.proofs.Parcels.{opened-is}
use Rattle.opp.specs.Opp.{open_at, opp_plain, opp_mode}
use Rattle.opp.specs.Pass.{written, plain}
use Rattle.opp.proofs.Passes.{tag_is}
use Rattle.opp.proofs.Opened.{opp-lawful}
use Rattle.opp.proofs.open.Goals as goal

pub returns : goal.returns
unfolding written plain opp_mode opp_plain open_at under planned D message_of cipher_part
returns c =
    let a = c.args in
    let parcel = a.parcel.now in
    let s = cipher_part parcel in
    let block : Block a.start = array-block _ _ c.well_formed.0 in
    let all : Bytes parcel = record { bytes = λ i. (c.type_inv.parcel i).fits } in
    let bytes : Bytes s = bytes_take (length parcel - 32) parcel all in
    let long : length s ≡ length parcel - 32 = length-take-le (length parcel - 32) parcel (omega arith) in
    let pass = c.pass-passed.ensures in
    let tag = tag_is a.rounds a.start s block bytes true a.header.now _ pass.all-checked pass.last-mask c.tag_block.ensures in
    rw (← opened-is (opp_mode a.rounds a.start) (opp-lawful a.rounds a.start block) a.header.now parcel a.out.now (omega arith))
    (rw (tag, pass.all-written, long) at c.verify.ensures)
