-- The whole blocks, and the leftover where there is one. Assumes nothing.
use mathlib.Core.Path.{◌≡◌}
use Prim.Native.Nat.{◌*◌}
use native.Mathlib.Omega.{arith}
use lib.ListN.{length}
use Rattle.words.specs.Block.{Block, Bytes}
use Rattle.words.proofs.Lists.{tail_part}
use Rattle.words.proofs.Arrays.{array-block}
use Rattle.blockplan.specs.Plan.{whole, left}
use Rattle.opp_converting.proofs.Judged.{ends-whole, ends-left}
use Rattle.opp_converting.proofs.judging.check.Goals as goal

pub returns-then-at-n : goal.returns-then-at-n
unfolding whole
returns-then-at-n c =
    let a = c.args in
    let s = a.s.now in
    let block : Block a.start = array-block _ _ c.well_formed.0 in
    let bytes : Bytes s = record { bytes = λ i. (c.type_inv.s i).fits } in
    let blocks = rw c.gamma.ensures at c.check_blocks-blocks.ensures in
    ends-whole a.rounds a.start s block bytes _ _ blocks.0 blocks.1 (omega arith)

pub returns : goal.returns
unfolding whole left
returns c =
    let a = c.args in
    let s = a.s.now in
    let block : Block a.start = array-block _ _ c.well_formed.0 in
    let bytes : Bytes s = record { bytes = λ i. (c.type_inv.s i).fits } in
    let blocks = rw c.gamma.ensures at c.check_blocks-blocks.ensures in
    let q : 128 * whole s ≡ length s → ⊥ = λ e. c.if-at-n.false (omega arith) in
    let last = rw (tail_part (128 * whole s) s) at c.pass_leftover.ensures in
    ends-left a.rounds a.start s block bytes _ _ blocks.0 blocks.1 _ _ q last.sum_value.0 last.sum_value.1
