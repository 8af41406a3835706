-- The reason as an answer, put into one number. Assumes nothing.
use mathlib.Core.Path.{ap, ◌∙◌}
use Rattle.answers.specs.Answers.{code_of}
use Rattle.diagnosing.specs.Diagnosing.{reason_told}
use Rattle.diagnosing.proofs.Told.{diagnose-small}
use Rattle.calmbaize.proofs.calmbaize_diagnose.Goals as goal

pub code-requires : goal.code-requires
code-requires c = rw (c.answer_of.ensures, c.diagnose-found.ensures) (diagnose-small _ _ _ _ _ _ _)

pub returns : goal.returns
returns c = c.code.ensures ∙ ap code_of (c.answer_of.ensures ∙ ap reason_told c.diagnose-found.ensures)
