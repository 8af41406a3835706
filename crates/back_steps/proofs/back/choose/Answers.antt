-- All 64 bits are done. Assumes nothing.
use Rattle.std.proofs.Common.{◌≡◌, arith}
use Rattle.back_steps.proofs.back.choose.Goals as goal

pub returns : goal.returns
returns c = let e : c.loop-n.n ≡ 64 = omega (arith, c.loop-n-test.false) in rw e at c.loop-n.invariant
