-- The setting asked, or what judge says. Assumes nothing.
use mathlib.Core.Path.{sym, ◌∙◌}
use Rattle.modes.specs.Modes.{mode_of}
use Rattle.diagnosing.proofs.Trying.{eq-same}
use Rattle.diagnosing.specs.Trying.{tries}
use Rattle.diagnosing.proofs.Trial.tries.Goals as goal

pub returns-then-eq : goal.returns-then-eq
unfolding tries
returns-then-eq c = rw (sym (eq-same c.args.self.now.asked c.args.s) ∙ sym c.eq.ensures ∙ c.if-eq.true)

pub returns : goal.returns
unfolding tries mode_of
returns c =
    rw (sym (eq-same c.args.self.now.asked c.args.s) ∙ sym c.eq.ensures ∙ c.if-eq.false)
    (c.judge.ensures)
