-- A count's sign picks the step, its size how often. Assumes nothing.
use mathlib.Core.Path.{◌∙◌}
use mir.Facts.{to_z-of_z}
use Rattle.walking.proofs.Sizes.{net_steps-back, net_steps-on}
use Rattle.walking.proofs.counts.repeat_net.Goals as goal

pub returns-then-z-lt0 : goal.returns-then-z-lt0
returns-then-z-lt0 g c = λ f h df dh.
    c.repeat.ensures h dh ∙ rw (c.unsigned_abs.ensures.value, to_z-of_z c.ranges.z)
    (net_steps-back f h c.args.z c.args.start (rw (to_z-of_z c.ranges.z) at c.if-z-lt0.true))

pub returns-else-z-lt0 : goal.returns-else-z-lt0
returns-else-z-lt0 g c = λ f h df dh.
    c.repeat-else-z-lt0.ensures f df ∙ rw (c.unsigned_abs-else-z-lt0.ensures.value, to_z-of_z c.ranges.z)
    (net_steps-on f h c.args.z c.args.start (rw (to_z-of_z c.ranges.z) at c.if-z-lt0.false))
