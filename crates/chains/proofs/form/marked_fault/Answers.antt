use Prim.Native.Nat.{◌+◌, ◌/◌}
use native.Mathlib.Omega.{arith}
use Rattle.cells.specs.Cells.{longest}
use Rattle.cells.proofs.Form.{long_of}
use Rattle.chains.proofs.Faults.{no-marks}
use Rattle.chains.proofs.form.marked_fault.Goals as goal

pub form_fault-requires : goal.form_fault-requires
form_fault-requires c =
    let l = long_of _ c.requires in
    ((omega (arith, l.least, l.whole), omega (arith, l.most, l.whole)), no-marks ((longest / 64 + 63) / 64))
