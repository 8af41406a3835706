use Rattle.cells.proofs.Cells.{named_by, named-not}
use Rattle.cells.proofs.fields.is_named.Goals as goal

pub returns-then-number_at-name : goal.returns-then-number_at-name
returns-then-number_at-name c =
    named_by _ _ _ _ _ c.requires c.number_at.ensures _ c.if-number_at-name.true c.number_at-then-number_at-name.ensures

pub returns-else-number_at-name : goal.returns-else-number_at-name
returns-else-number_at-name c = named-not _ _ _ _ _ c.requires c.number_at.ensures c.if-number_at-name.false
