use mathlib.Core.Path.{◌∙◌}
use Rattle.store.specs.Store.{read_refusal}
use Rattle.store.proofs.Calls.{judged-and}
use Rattle.store.proofs.read_refusal.Goals as goal

pub returns : goal.returns
unfolding read_refusal
returns c = c.and.ensures ∙ judged-and _ _ _ c.locate.ensures
