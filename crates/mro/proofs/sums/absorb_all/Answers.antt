-- The whole blocks, and a padded one where bytes are left over. Assumes nothing.
use mathlib.Core.Path.{◌∙◌}
use Rattle.blockplan.specs.Pass.{stepping}
use Rattle.mro.proofs.Absorbed.{summed-all}
use Rattle.mro.proofs.sums.absorb_all.Goals as goal

pub returns : goal.returns
returns c =
    let a = c.args in
    c.absorb.ensures ∙ summed-all a.rounds (stepping a.first) a.s.now
