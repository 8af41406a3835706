use native.Mathlib.Omega.{arith}
use Prim.Native.Nat.{◌/◌, ◌%◌}
use lib.ListN.{get_or}
use Rattle.chains.specs.Marks.{bit_at, marked}
use Rattle.chains.proofs.Bits.{powered, bit-fits}
use Rattle.chains.proofs.marks.mark.Goals as goal

pub overflow_add-marks : goal.overflow_add-marks
unfolding bit_at
overflow_add-marks c =
    let a = c.args in
    rw (powered (a.c % 64) (omega arith)) (omega (arith, bit-fits 64 (a.c % 64) (get_or a.marks.now (a.c / 64) 0) (omega arith) (omega (arith, c.slice_known-1.given (a.c / 64))) c.requires.1))

pub returns : goal.returns
unfolding marked
returns c = rw (powered (c.args.c % 64) (omega arith))
