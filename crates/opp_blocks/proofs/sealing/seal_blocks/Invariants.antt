-- Two blocks more in each turn, and one at the end where their number is odd. Assumes nothing.
use mathlib.Core.Bool.{false}
use Prim.Native.Nat.{◌*◌}
use Rattle.blockplan.specs.Pass.{stepping, Passed}
use Rattle.opp_blocks.proofs.sealing.seal_blocks.Given as goal

abbrev pub invariant-loop-i : goal.invariant-loop-i
invariant-loop-i l = Passed false l.rounds (stepping l.initial.mask) l.s (2 * l.i) l.initial.out l.out l.sum l.mask
