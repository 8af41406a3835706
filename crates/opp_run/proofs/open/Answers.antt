-- The message, and behind it what was there; kept or cleared by the tag. Assumes nothing.
use mathlib.Core.Path.{◌≡◌, refl, sym}
use mathlib.Core.Bool.{true}
use Prim.Native.Nat.{◌-◌}
use native.Mathlib.Omega.{arith}
use lib.ListN.{length, take}
use lib.Seq.{length-take-le}
use Rattle.words.specs.Block.{Block, Bytes}
use Rattle.words.proofs.Blocks.{bytes_take}
use Rattle.mem.specs.Mem.{D}
use Rattle.blockplan.specs.Plan.{whole}
use Rattle.blockplan.specs.Parcel.{message_of, cipher_part}
use Rattle.blockplan.specs.Pass.{under, planned}
use Rattle.blockplan.proofs.Parcels.{opened-is}
use Rattle.opp.specs.Opp.{open_at, opp_plain, opp_mode}
use Rattle.opp.specs.Pass.{written, plain}
use Rattle.opp.proofs.Passes.{tag-from}
use Rattle.opp.proofs.Opened.{opp-lawful}
use Rattle.opp_run.proofs.open.Goals as goal

pub slice_bounds-cipher-end : goal.slice_bounds-cipher-end
slice_bounds-cipher-end c = sym (length-take-le _ _ (omega arith))

pub pass-check-requires : goal.pass-check-requires
unfolding whole
pass-check-requires c =
    let short = length-take-le (length c.args.parcel.now - 32) c.args.parcel.now (omega arith) in
    rw short (omega arith)

pub tag_block-requires : goal.tag_block-requires
unfolding whole
tag_block-requires c =
    let short = length-take-le (length c.args.parcel.now - 32) c.args.parcel.now (omega arith) in
    rw short (omega arith)

pub returns : goal.returns
unfolding written plain opp_mode opp_plain open_at under planned D message_of cipher_part
returns c =
    let a = c.args in
    let w = a.run.now in
    let parcel = a.parcel.now in
    let s = cipher_part parcel in
    let all : Bytes parcel = record { bytes = λ i. (c.type_inv.parcel i).fits } in
    let bytes : Bytes s = bytes_take (length parcel - 32) parcel all in
    let long : length s ≡ length parcel - 32 = length-take-le (length parcel - 32) parcel (omega arith) in
    let pass = c.pass-check.ensures in
    let block : Block (take 16 w) = pass.start in
    let tag = tag-from a.rounds (take 16 w) s block bytes true a.header.now _ pass.value refl c.tag_block.ensures in
    rw (← opened-is (opp_mode a.rounds (take 16 w)) (opp-lawful a.rounds (take 16 w) block) a.header.now parcel a.out.now (omega arith))
    (rw (tag, pass.out_after, long) at c.verify.ensures)
