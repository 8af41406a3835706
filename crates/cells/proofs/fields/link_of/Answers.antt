use Rattle.cells.proofs.Links.{link-is}
use Rattle.cells.proofs.fields.link_of.Goals as goal

pub returns : goal.returns
returns c = link-is _ _ _ c.requires (λ i. (c.type_inv.s i).fits) c.number_at-front.ensures
