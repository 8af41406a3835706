-- The two sums, and the tag from them. Assumes nothing.
use mathlib.Core.Path.{ap₂, ◌∙◌}
use mathlib.Core.List.{List}
use Prim.Native.Nat.{ℕ}
use Rattle.words.specs.Block.{xor_block}
use Rattle.mem.specs.Mem.{encipher, E}
use Rattle.mro.specs.Mro.{lengths}
use Rattle.mro_run.proofs.FromRun.{sum-from-run}
use Rattle.mro_run.proofs.sums.tag_block.Goals as goal

pub returns : goal.returns
unfolding lengths E
returns c =
    let a = c.args in
    let w = a.run.now in
    let run = c.words-words.ensures in
    let header = a.header.now in
    let message = a.message.now in
    let sum =
    c.xor.ensures ∙ rw run.same at (ap₂ xor_block c.absorb_all-of_header.ensures c.absorb_all-of_message.ensures)
    ∙ sum-from-run w run.is_run run.start a.rounds header message c.requires.0 c.requires.1 in
    c.tag_under.ensures ∙ ap₂ (λ (m s : List ℕ). encipher a.rounds m (xor_block s (lengths header message))) c.beta_twice_of-mask.ensures sum
