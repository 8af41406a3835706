-- The calls, one inside the other. Assumes nothing.
use mathlib.Core.Path.{ap, ap₂, ◌∙◌}
use mathlib.Core.List.{List}
use Prim.Native.Nat.{ℕ}
use Rattle.words.specs.Block.{xor_block}
use Rattle.mem.specs.Mem.{encipher}
use Rattle.opp_run.proofs.tag.tag_block.Goals as goal

pub returns : goal.returns
returns c =
    let a = c.args in
    c.xor.ensures
    ∙ ap₂ xor_block c.header_sum-sum.ensures (c.encipher.ensures ∙ ap (λ (m : List ℕ). encipher a.rounds m a.check) c.tag_mask-mask.ensures)
