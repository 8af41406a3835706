-- The call's answer, put into one number. Assumes nothing.
use mathlib.Core.Path.{ap, ◌∙◌}
use Rattle.answers.specs.Answers.{code_of}
use Rattle.store.proofs.Small.{read_small}
use Rattle.calmbaize.proofs.calmbaize_store_read.Goals as goal

pub code-requires : goal.code-requires
code-requires c = rw c.read_offset.ensures (read_small _ _ _)

pub returns : goal.returns
returns c = c.code.ensures ∙ ap code_of c.read_offset.ensures
