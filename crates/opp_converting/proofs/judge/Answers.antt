-- The tag that the check leads to, compared. Assumes nothing.
use mathlib.Core.Path.{ap, ◌∙◌}
use mathlib.Core.Bool.{true}
use mathlib.Core.List.{List}
use Prim.Native.Nat.{ℕ, ◌-◌}
use lib.ListN.{length}
use Rattle.words.specs.Block.{Block, Bytes}
use Rattle.words.proofs.Blocks.{bytes_take}
use Rattle.words.proofs.Arrays.{array-block}
use Rattle.mem.specs.Mem.{D}
use Rattle.blockplan.specs.Parcel.{message_of, cipher_part, tag_part, same, genuine}
use Rattle.blockplan.specs.Pass.{under, planned}
use Rattle.opp.specs.Opp.{open_at, opp_plain, opp_mode}
use Rattle.opp.specs.Pass.{written, plain}
use Rattle.opp.proofs.Passes.{tag_is}
use Rattle.opp_converting.proofs.judge.Goals as goal

pub returns : goal.returns
unfolding genuine opp_mode message_of cipher_part written plain opp_plain open_at under planned D
returns c =
    let a = c.args in
    let parcel = a.parcel.now in
    let block : Block a.start = array-block _ _ c.well_formed.0 in
    let all : Bytes parcel = record { bytes = λ i. (c.type_inv.parcel i).fits } in
    let bytes : Bytes (cipher_part parcel) = bytes_take (length parcel - 32) parcel all in
    let check = c.check-passed.ensures in
    let tag = tag_is a.rounds a.start (cipher_part parcel) block bytes true a.header.now _ check.0 check.1 c.tag_block.ensures in
    c.agrees.ensures ∙ ap (λ (t : List ℕ). same t (tag_part parcel)) tag
