-- One block more in each turn. Assumes nothing.
use mathlib.Core.Bool.{true}
use native.Mathlib.Omega.{arith}
use Rattle.blockplan.proofs.Summing.{summing-none, summing-more, summing-done}
use Rattle.opp_blocks.proofs.judging.check_blocks.Goals as goal

pub loop-rest-init : goal.loop-rest-init
loop-rest-init c = summing-none true _ _ _ _ c.zero-sum.ensures

pub loop-rest-preserved : goal.loop-rest-preserved
loop-rest-preserved c =
    let at = c.loop-rest in
    summing-more true _ _ _ at.rest.now at.sum at.mask at.invariant _ _ (omega arith)
    (rw (c.xor-next.ensures, c.decipher.ensures, c.load.ensures)) c.alpha-step.ensures

pub returns : goal.returns
returns c =
    let at = c.loop-rest in
    summing-done true _ _ _ at.rest.now at.sum at.mask at.invariant (omega arith)
