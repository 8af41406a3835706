use mathlib.Core.Path.{◌≡◌}
use mathlib.Core.Bool.{true, false}
use Prim.Native.Nat.{ℕ}
use Rattle.std.specs.Prelude.{Option, Some, None, IfSome}
use Rattle.cells.specs.Cells.{length_fits, formed}
use Rattle.chains.specs.Sound.{OneUpTo}
use Rattle.cells.proofs.Form.{long_of}
use Rattle.chains.proofs.Sounds.{ended-formed}
use Rattle.chains.proofs.sound.left_over.Goals as goal

pub returns : goal.returns
returns c = go c.walk_one-2.result c.walk_one-2.ensures
  where
    go : (r : Option ℕ) → IfSome r (λ left. OneUpTo c.args.s.now false c.in_ok-both.both.free 0 c.in_ok-left.left left) → IfSome r (λ left. left ≡ 0 → length_fits c.args.s.now ≡ true → formed c.args.s.now ≡ true)
    go None h = tt
    go (Some left) h = λ z long. ended-formed _ _ _ _ _ _ (long_of _ long) c.in_ok-both.ensures c.in_ok-left.ensures h z
