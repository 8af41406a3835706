-- Two maps that undo each other ("back" of document 01: a back permutation, a back step). Assumes nothing.
use Rattle.std.specs.Prelude.{◌≡◌}

-- among the values that On tells of, as the blocks, forth and back stay, and each undoes the other
pub record Undo {A : Type 0} (On : A → Type 0) (forth back : A → A) : Type 0 where
  pub forth-keeps : (x : A) → On x → On (forth x)
  pub back-keeps : (x : A) → On x → On (back x)
  pub back-forth : (x : A) → On x → back (forth x) ≡ x
  pub forth-back : (x : A) → On x → forth (back x) ≡ x
