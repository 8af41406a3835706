-- The ciphertext written to the front, the tag behind it. Assumes nothing.
use mathlib.Core.Path.{refl}
use Rattle.blockplan.specs.Plan.{tag_bytes}
use Rattle.blockplan.proofs.Parcels.{sealed-as}
use Rattle.mro.specs.Mro.{mro_tag, mro_mode}
use Rattle.mro.proofs.Opened.{mro-lawful}
use Rattle.mro.proofs.seal.Goals as goal

pub returns : goal.returns
unfolding mro_mode mro_tag
returns c =
    let tag = c.tag_block-tag in
    let m = c.args.message.now in
    sealed-as (mro_mode c.args.rounds c.args.start) (mro-lawful c.args.rounds c.args.start) c.args.header.now m _ refl (tag_bytes tag.result) c.args.out.now _ _
    (rw tag.ensures) c.xor_stream.ensures c.store_tag.ensures
