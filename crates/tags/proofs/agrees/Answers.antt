-- The bits that differ decide the answer. Assumes nothing.
use mathlib.Core.Path.{◌≡◌}
use Prim.Native.Nat.{◌-◌}
use native.Mathlib.Omega.{arith}
use lib.ListN.{length, length-drop}
use Rattle.words.specs.Block.{Block, Bytes}
use Rattle.words.proofs.Lists.{tail_part}
use Rattle.words.proofs.Arrays.{array-block}
use Rattle.words.proofs.Blocks.{bytes_drop}
use Rattle.blockplan.specs.Parcel.{tag_part}
use Rattle.tags.proofs.Judged.{judged}
use Rattle.tags.proofs.agrees.Goals as goal

pub returns : goal.returns
unfolding tag_part
returns c =
    let a = c.args in
    let block : Block a.expected = array-block _ _ c.well_formed.0 in
    let parcel = a.parcel.now in
    let exact : length (tag_part parcel) ≡ 32 = simp length-drop (omega arith) in
    let differ = rw (tail_part (length parcel - 32) parcel) at c.difference.ensures in
    let bytes : Bytes parcel = record { bytes = λ i. (c.type_inv.parcel i).fits } in
    judged a.expected (tag_part parcel) block (bytes_drop (length parcel - 32) parcel bytes) exact _ differ
