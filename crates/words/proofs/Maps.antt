-- Maps on the values that P tells of: those that keep to them, those that commute, and those that undo each other. Assumes nothing.
use mathlib.Core.Path.{◌≡◌, refl, sym, ap, ◌∙◌}
use Rattle.words.specs.Undo.{Undo}

-- f takes such values to such values
abbrev pub Keeps : {A : Type 0} → (A → Type 0) → (A → A) → Type 0
Keeps {A} P f = (x : A) → P x → P (f x)

-- h and f commute on them
abbrev pub Commute : {A : Type 0} → (A → Type 0) → (A → A) → (A → A) → Type 0
Commute {A} P h f = (x : A) → P x → h (f x) ≡ f (h x)

module _ {A : Type 0} {P : A → Type 0} where
  pub turn : (h f : A → A) → Commute P h f → Commute P f h
  turn h f e x p = sym (e x p)

  pub undo-same : Undo P (λ x. x) (λ x. x)
  undo-same = record { forth-keeps = λ x p. p; back-keeps = λ x p. p; back-forth = λ x p. refl; forth-back = λ x p. refl }

  pub undo-flip : {f h : A → A} → Undo P f h → Undo P h f
  undo-flip u = record { forth-keeps = u.back-keeps; back-keeps = u.forth-keeps; back-forth = u.forth-back; forth-back = u.back-forth }

  -- f and then g; back, g's way back first
  pub undo-then : {f h g k : A → A} → Undo P f h → Undo P g k → Undo P (λ x. g (f x)) (λ x. h (k x))
  undo-then {f} {h} {g} {k} u v = record {
    forth-keeps = λ x p. v.forth-keeps (f x) (u.forth-keeps x p);
    back-keeps = λ x p. u.back-keeps (k x) (v.back-keeps x p);
    back-forth = λ x p. ap h (v.back-forth (f x) (u.forth-keeps x p)) ∙ u.back-forth x p;
    forth-back = λ x p. ap g (u.forth-back (k x) (v.back-keeps x p)) ∙ v.forth-back x p;
  }

  -- what commutes with a map commutes with its way back
  pub commute-back : {f h : A → A} → Undo P f h → (k : A → A) → Keeps P k → Commute P f k → Commute P h k
  commute-back {f} {h} u k keeps c x p =
      let q = u.back-keeps x p in
      ap (λ (y : A). h (k y)) (sym (u.forth-back x p)) ∙ ap h (sym (c (h x) q)) ∙ u.back-forth (k (h x)) (keeps (h x) q)
