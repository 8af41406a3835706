-- The word's bits or'ed into the lowest one, as a law has it. Assumes nothing.
use Rattle.tags.proofs.Kept.{or_up, mask_of, mask_is}
use borrow.Author.Rules.{rules}
use Rattle.tags.proofs.mask_of.Goals as goal

pub returns : goal.returns
unfolding mask_of or_up
returns c = mask_is c.args.differ (search rules)
