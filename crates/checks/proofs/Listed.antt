-- A search through any list of numbers is is_one_of. Assumes nothing.
use mathlib.Core.Path.{◌≡◌, refl, sym, ap₂, ◌∙◌}
use mathlib.Core.Bool.{Bool, ◌||◌}
use mathlib.Core.List.{List, [], ◌∷◌}
use Prim.Native.Nat.{ℕ}
use lib.Dec.{eqb}
use native.Mathlib.Decide.{ℕ_discrete}
use borrow.Author.Tests.{eq-eqb, ne_eqb}
use Rattle.std.specs.List.{list_any}
use Rattle.checks.specs.Checks.{is_one_of, is_rounds, round_counts}

eqb-turned : (a b : ℕ) → eqb a b ≡ eqb b a
eqb-turned a b = elim (ℕ_discrete a b) [
  | yes q ↦ eq-eqb a b q ∙ sym (eq-eqb b a (sym q))
  | no q ↦ ne_eqb a b q ∙ sym (ne_eqb b a (λ e. q (sym e)))
]

any_is_one_of : (ks : List ℕ) (n : ℕ) → list_any (λ k. eqb k n) ks ≡ is_one_of ks n
unfolding is_one_of
any_is_one_of [] n = refl
any_is_one_of (k ∷ ks) n = ap₂ (λ (s t : Bool). s || t) (eqb-turned k n) (any_is_one_of ks n)

pub any_is_rounds : (n : ℕ) → list_any (λ k. eqb k n) (4 ∷ 6 ∷ 8 ∷ 12 ∷ []) ≡ is_rounds n
unfolding is_rounds round_counts
any_is_rounds n = any_is_one_of (4 ∷ 6 ∷ 8 ∷ 12 ∷ []) n
