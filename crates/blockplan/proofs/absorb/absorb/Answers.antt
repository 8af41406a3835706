-- One block more in each turn, and at the end the leftover where there is one. Assumes nothing.
use mathlib.Core.Bool.{false}
use native.Mathlib.Omega.{arith}
use lib.ListN.{length}
use borrow.Author.Tests.{lt-ltb, le-ltb}
use Rattle.blockplan.specs.Plan.{has_left, xor_if}
use Rattle.blockplan.proofs.Summing.{summing-none, summing-more, summing-done, summing-left}
use Rattle.blockplan.proofs.absorb.absorb.Goals as goal

pub loop-rest-init : goal.loop-rest-init
loop-rest-init g c = summing-none false _ _ _ _ c.zero-sum.ensures

pub loop-rest-preserved : goal.loop-rest-preserved
loop-rest-preserved g c =
    let at = c.loop-rest in
    summing-more false _ _ _ at.rest.now at.sum at.mask at.invariant _ _ (omega arith)
    (rw (c.xor-next.ensures, c.encipher.ensures, c.load.ensures)) c.alpha-step.ensures

pub returns-then-rest-eq0 : goal.returns-then-rest-eq0
unfolding has_left xor_if
returns-then-rest-eq0 g c =
    let at = c.loop-rest in
    let rest = at.rest.now in
    let left = summing-left false _ _ _ rest at.sum at.mask at.invariant (omega arith) in
    let done = summing-done false _ _ _ rest at.sum at.mask at.invariant (omega arith) in
    rw (← left, le-ltb 0 (length rest) (omega arith)) done.0

pub returns : goal.returns
unfolding has_left xor_if
returns g c =
    let at = c.loop-rest in
    let rest = at.rest.now in
    let left = summing-left false _ _ _ rest at.sum at.mask at.invariant (omega arith) in
    let done = summing-done false _ _ _ rest at.sum at.mask at.invariant (omega arith) in
    rw (← left, lt-ltb 0 (length rest) (omega arith), ← done.0, ← done.1, c.absorb_left.ensures, c.left_mask.ensures)
