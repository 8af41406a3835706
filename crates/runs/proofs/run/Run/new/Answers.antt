-- The first sixteen words are a block, since each fits 64 bits. Assumes nothing.
use Rattle.runs.proofs.Planned.{first_block}
use Rattle.runs.proofs.run.Run.new.Goals as goal

pub invariant_of-result : goal.invariant_of-result
invariant_of-result c = (c.requires, first_block c.args.words.now c.requires.long (λ i. (c.type_inv.words i).fits))
