-- The whole blocks, and the leftover where there is one. Assumes nothing.
use mathlib.Core.Path.{◌≡◌}
use Prim.Native.Nat.{◌*◌}
use native.Mathlib.Omega.{arith}
use lib.ListN.{length}
use Rattle.words.specs.Block.{Block, Bytes}
use Rattle.words.proofs.Lists.{tail_part}
use Rattle.words.proofs.Arrays.{array-block}
use Rattle.blockplan.specs.Plan.{whole, left}
use Rattle.opp.proofs.Passes.{blocks-planned, all_whole, all_left}
use Rattle.opp.proofs.message.pass.Goals as goal

pub returns-then-at-n : goal.returns-then-at-n
unfolding whole
returns-then-at-n g c =
    let a = c.args in
    let s = a.s.now in
    let block : Block a.start = array-block _ _ c.well_formed.0 in
    let bytes : Bytes s = record { bytes = λ i. (c.type_inv.s i).fits } in
    let blocks = blocks-planned a.rounds a.start s block _ (rw c.gamma.ensures at c.pass_blocks-blocks.ensures) in
    all_whole a.rounds a.start s block bytes _ a.out.now _ _ _ blocks (omega arith)

pub returns : goal.returns
unfolding whole left
returns g c =
    let a = c.args in
    let s = a.s.now in
    let block : Block a.start = array-block _ _ c.well_formed.0 in
    let bytes : Bytes s = record { bytes = λ i. (c.type_inv.s i).fits } in
    let blocks = blocks-planned a.rounds a.start s block _
    (rw c.gamma.ensures at c.pass_blocks-blocks.ensures) in
    let q : 128 * whole s ≡ length s → ⊥ = λ e. omega arith in
    let rest = rw (tail_part (128 * whole s) s) at c.pass_leftover.ensures in
    all_left a.rounds a.start s block bytes _ a.out.now _ _ _ blocks _ _ _ q rest.out_after rest.sum_value.0 rest.sum_value.1
