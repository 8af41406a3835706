-- What is known, or what start makes. Assumes nothing.
use mathlib.Core.Path.{sym, ◌∙◌}
use Rattle.diagnosing.proofs.Trying.{beq-is, alike, start-same}
use Rattle.diagnosing.specs.Diagnosing.{start_under}
use Rattle.diagnosing.proofs.Trial.start_under.Goals as goal

pub returns-then-self-s-2 : goal.returns-then-self-s-2
returns-then-self-s-2 c =
    let self = c.args.self.now in
    let old = alike self.asked.old c.args.s.old (sym (beq-is _ _) ∙ c.if-self-s-2.true) in
    self.started ∙ start-same self.of.key.now self.of.nonce.now self.asked c.args.s old c.if-self-s.true

pub returns : goal.returns
unfolding start_under
returns c = c.start.ensures
