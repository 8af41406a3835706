-- The ciphertext, and behind it the tag. Assumes nothing.
use mathlib.Core.Path.{refl}
use mathlib.Core.Bool.{false}
use lib.ListN.{take}
use Rattle.words.specs.Block.{Block, Bytes}
use Rattle.mem.specs.Mem.{E}
use Rattle.blockplan.specs.Pass.{under, planned}
use Rattle.blockplan.proofs.Parcels.{sealed-as}
use Rattle.opp.specs.Opp.{opp_mode, opp_cipher, seal_at}
use Rattle.opp.specs.Pass.{written, plain}
use Rattle.opp.proofs.Passes.{tag-from}
use Rattle.opp.proofs.Opened.{opp-lawful}
use Rattle.opp_run.proofs.seal.Goals as goal

pub returns : goal.returns
unfolding written plain opp_mode opp_cipher seal_at under planned E
returns c =
    let a = c.args in
    let w = a.run.now in
    let m = a.message.now in
    let bytes : Bytes m = record { bytes = λ i. (c.type_inv.message i).fits } in
    let pass = c.pass-check.ensures in
    let block : Block (take 16 w) = pass.start in
    let tag = tag-from a.rounds (take 16 w) m block bytes false a.header.now _ pass.value refl c.tag_block.ensures in
    sealed-as (opp_mode a.rounds (take 16 w)) (opp-lawful a.rounds (take 16 w) block) a.header.now m _ refl _ a.out.now _ _ tag pass.out_after c.store_tag.ensures
