-- Two beta steps on in the plan. Assumes nothing.
use mathlib.Core.Path.{◌∙◌}
use Rattle.runs.proofs.Planned.{kind-two}
use Rattle.runs.proofs.run.Run.beta_twice_of.Goals as goal

pub returns : goal.returns
returns c =
    let a = c.args in
    let run = c.words.ensures in
    rw run.same at c.beta_twice_of.ensures ∙ kind-two a.self.now run.is_run run.start a.n a.kind c.requires
