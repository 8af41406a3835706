use mathlib.Core.Path.{sym, ◌∙◌}
use native.Mathlib.Omega.{arith}
use Rattle.cells.specs.Cells.{cells}
use Rattle.cells.proofs.Form.{long_of}
use Rattle.cells.specs.Faults.{fault_of, length_or}
use Rattle.cells.proofs.Faults.{formed-sound}
use Rattle.chains.proofs.form.first_fault.Goals as goal

pub returns-then-not-length_fits : goal.returns-then-not-length_fits
unfolding fault_of length_or
returns-then-not-length_fits c = rw (sym c.length_fits.ensures ∙ c.if-not-length_fits.true)

pub is_sound-requires : goal.is_sound-requires
unfolding cells
is_sound-requires c = let l = long_of _ (sym c.length_fits.ensures ∙ c.if-not-length_fits.false) in omega (arith, l.least)

pub returns-then-is_sound : goal.returns-then-is_sound
returns-then-is_sound c = sym (formed-sound _ (c.is_sound.ensures c.if-is_sound.true (sym c.length_fits.ensures ∙ c.if-not-length_fits.false)))

pub marked_fault-requires : goal.marked_fault-requires
marked_fault-requires c = sym c.length_fits.ensures ∙ c.if-not-length_fits.false

pub returns : goal.returns
unfolding fault_of length_or
returns c = rw (sym c.length_fits.ensures ∙ c.if-not-length_fits.false) c.marked_fault.ensures
