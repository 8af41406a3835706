use mathlib.Core.Path.{sym, ◌∙◌}
use native.Mathlib.Omega.{arith}
use Rattle.answers.specs.Answers.{checked}
use Rattle.cells.specs.Faults.{length_or, fault_check}
use Rattle.cells.proofs.Form.{long_of}
use Rattle.store.specs.Store.{format_call, format_checks}
use Rattle.store.proofs.format.Goals as goal

pub returns-then-not-length_fits : goal.returns-then-not-length_fits
unfolding format_call format_checks length_or fault_check checked
returns-then-not-length_fits c = rw (sym c.length_fits.ensures ∙ c.if-not-length_fits.true, c.from.ensures)

pub format-requires : goal.format-requires
format-requires c =
    let l = long_of _ (sym c.length_fits.ensures ∙ c.if-not-length_fits.false) in
    (omega (arith, l.least, l.whole), omega (arith, l.whole))

pub returns : goal.returns
unfolding format_call format_checks length_or fault_check checked
returns c = rw (sym c.length_fits.ensures ∙ c.if-not-length_fits.false, c.format.ensures)
