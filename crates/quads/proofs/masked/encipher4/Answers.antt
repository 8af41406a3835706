-- Each lane: masked, permuted, masked. Assumes nothing.
use mathlib.Core.Path.{ap, ◌∙◌}
use mathlib.Core.List.{List}
use Prim.Native.Nat.{ℕ}
use Rattle.words.specs.Block.{xor_block}
use Rattle.permutation.specs.Permutation.{perm}
use Rattle.mem.specs.Mem.{encipher}
use Rattle.quads.proofs.masked.encipher4.Goals as goal

pub returns : goal.returns
unfolding encipher
returns g c =
    let a = c.args in record {
      each = λ m h.
          c.gather.ensures.each m h
          ∙ ap (λ (s : List ℕ). xor_block s (g.M.Masks.mask a.masks.now m)) (c.permute4.ensures.each m h ∙ ap (perm a.rounds) (c.spread_masked-w.ensures.each m h));
    }
