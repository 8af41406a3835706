-- The whole blocks, and a padded one where bytes are left over. Assumes nothing.
use mathlib.Core.Path.{◌∙◌}
use Rattle.masks.specs.Run.{mask_from}
use Rattle.runs.specs.Kinds.{neighbours_in}
use Rattle.mro.proofs.Absorbed.{summed-all}
use Rattle.mro_run.proofs.sums.absorb_all.Goals as goal

pub returns : goal.returns
returns c =
    let a = c.args in
    c.absorb.ensures ∙ summed-all a.rounds (mask_from (neighbours_in a.kind) a.run.now) a.s.now
