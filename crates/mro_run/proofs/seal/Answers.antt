-- The ciphertext written to the front, the tag behind it. Assumes nothing.
use mathlib.Core.Path.{refl}
use native.Mathlib.Omega.{arith}
use lib.ListN.{take, length-drop}
use Rattle.words.proofs.Lists.{tail_part}
use Rattle.blockplan.specs.Plan.{tag_bytes}
use Rattle.blockplan.proofs.Parcels.{sealed-as}
use Rattle.mro.specs.Mro.{mro_tag, mro_mode}
use Rattle.mro.proofs.Opened.{mro-lawful}
use Rattle.mro_run.proofs.seal.Goals as goal

pub store_tag-requires : goal.store_tag-requires
store_tag-requires c = rw tail_part (simp length-drop (omega arith))

pub returns : goal.returns
unfolding mro_mode mro_tag
returns c =
    let a = c.args in
    let first = take 16 a.run.now in
    let tag = c.tag_block-tag in
    sealed-as (mro_mode a.rounds first) (mro-lawful a.rounds first) a.header.now a.message.now _ refl (tag_bytes tag.result) a.out.now _ _
    (rw tag.ensures) c.xor_stream.ensures c.store_tag.ensures
