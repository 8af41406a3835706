-- The ciphertext, and behind it the tag. Assumes nothing.
use mathlib.Core.Path.{refl}
use mathlib.Core.Bool.{false}
use Rattle.words.specs.Block.{Block, Bytes}
use Rattle.words.proofs.Arrays.{array-block}
use Rattle.blockplan.proofs.Parcels.{sealed-as}
use Rattle.mem.specs.Mem.{E}
use Rattle.blockplan.specs.Pass.{under, planned}
use Rattle.opp.specs.Opp.{opp_mode, opp_cipher, seal_at}
use Rattle.opp.specs.Pass.{written, plain}
use Rattle.opp.proofs.Passes.{tag_is}
use Rattle.opp.proofs.Opened.{opp-lawful}
use Rattle.opp.proofs.seal.Goals as goal

pub returns : goal.returns
unfolding written plain opp_mode opp_cipher seal_at under planned E
returns c =
    let a = c.args in
    let m = a.message.now in
    let block : Block a.start = array-block _ _ c.well_formed.0 in
    let bytes : Bytes m = record { bytes = λ i. (c.type_inv.message i).fits } in
    let pass = c.pass-passed.ensures in
    let tag = tag_is a.rounds a.start m block bytes false a.header.now _ pass.all-checked pass.last-mask c.tag_block.ensures in
    sealed-as (opp_mode a.rounds a.start) (opp-lawful a.rounds a.start block) a.header.now m _ refl _ a.out.now _ _ tag pass.all-written c.store_tag.ensures
