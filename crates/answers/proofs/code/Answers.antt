-- Number and value, put together. Assumes nothing.
use Rattle.answers.specs.Answers.{code_of}
use Rattle.answers.proofs.code.Goals as goal

pub returns : goal.returns
unfolding code_of
returns c = rw (c.value.ensures, c.number.ensures)
