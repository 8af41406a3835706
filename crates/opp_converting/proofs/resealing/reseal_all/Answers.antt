-- A pass over the message: its whole blocks, and its leftover where there is one. Assumes nothing.
use mathlib.Core.Path.{◌≡◌}
use Prim.Native.Nat.{◌*◌}
use native.Mathlib.Omega.{arith}
use lib.ListN.{length}
use Rattle.words.specs.Block.{Block, Bytes}
use Rattle.words.proofs.Lists.{tail_part}
use Rattle.words.proofs.Arrays.{array-block}
use Rattle.blockplan.specs.Plan.{whole, left}
use Rattle.opp_converting.proofs.Resealed.{resealed-whole, resealed-left}
use Rattle.opp_converting.proofs.resealing.reseal_all.Goals as goal

pub returns-then-at-n : goal.returns-then-at-n
unfolding whole
returns-then-at-n c =
    let a = c.args in
    let from : Block a.from = array-block _ _ c.well_formed.0 in
    let to : Block a.to = array-block _ _ c.well_formed.1.0 in
    let bytes : Bytes a.s.now = record { bytes = λ i. (c.type_inv.s i).fits } in
    let made = rw (c.gamma.ensures, c.gamma-2.ensures) at c.reseal_blocks-blocks.ensures in
    resealed-whole a.rounds a.from a.s.now from bytes a.to to a.out.now _ _ _ _ made.out_after made.sum_value.0 made.sum_value.1.0 made.sum_value.1.1 (omega arith)

pub returns : goal.returns
unfolding whole left
returns c =
    let a = c.args in
    let s = a.s.now in
    let from : Block a.from = array-block _ _ c.well_formed.0 in
    let to : Block a.to = array-block _ _ c.well_formed.1.0 in
    let bytes : Bytes s = record { bytes = λ i. (c.type_inv.s i).fits } in
    let made = rw (c.gamma.ensures, c.gamma-2.ensures) at c.reseal_blocks-blocks.ensures in
    let q : 128 * whole s ≡ length s → ⊥ = λ e. c.if-at-n.false (omega arith) in
    let rest = rw (tail_part (128 * whole s) s) at c.reseal_leftover.ensures in
    resealed-left a.rounds a.from s from bytes a.to to a.out.now _ _ _ _ made.out_after made.sum_value.0 made.sum_value.1.0 made.sum_value.1.1 _ _ _ q rest.out_after rest.sum_value.0 rest.sum_value.1
