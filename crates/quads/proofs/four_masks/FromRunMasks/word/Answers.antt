-- A word of the run, its two places in the sum exchanged. Assumes nothing.
use mathlib.Core.Path.{sym, ◌∙◌}
use Prim.Native.Nat.{◌+◌}
use Rattle.words.proofs.Lists.{get_or-tab}
use Rattle.masks.specs.Run.{neighbours, mask_from}
use Rattle.runs.specs.Kinds.{neighbours_in}
use Rattle.quads.proofs.Laws.{word_moved}
use Rattle.quads.proofs.four_masks.FromRunMasks.word.Goals as goal

pub returns : goal.returns
unfolding mask_from
returns c =
    let a = c.args in
    let s = a.self.now in
    word_moved (neighbours_in s.kind) s.words.now s.at a.i a.m _ c.mask_word.ensures
    ∙ sym (get_or-tab (λ j. neighbours (neighbours_in s.kind) s.words.now (s.at + a.m + j)) 16 a.i c.requires.0)
