-- Laws of a map taken again and again, on the lists that P tells of. Assumes nothing.
use mathlib.Core.Path.{◌≡◌, refl, sym, ap, ◌∙◌}
use mathlib.Core.List.{List}
use Prim.Native.Nat.{ℕ, zero, suc}
use Rattle.words.specs.Sequence.{times}
use Rattle.words.specs.Undo.{Undo}
use Rattle.words.proofs.Maps.{Keeps, Commute, undo-flip}

-- once first, then n times: one time more
pub times-first : (f : List ℕ → List ℕ) (n : ℕ) (s : List ℕ) → times f n (f s) ≡ times f (suc n) s
unfolding times
times-first f zero s = refl
times-first f (suc n) s = ap f (times-first f n s)

module _ (P : List ℕ → Type 0) (f : List ℕ → List ℕ) (keeps : Keeps P f) where
  pub times-keeps : (n : ℕ) → Keeps P (times f n)
  unfolding times
  times-keeps zero s p = p
  times-keeps (suc n) s p = keeps (times f n s) (times-keeps n s p)

  -- what commutes with f commutes with f taken n times
  pub times-commute : (h : List ℕ → List ℕ) → Commute P h f → (n : ℕ) → Commute P h (times f n)
  unfolding times
  times-commute h e zero s p = refl
  times-commute h e (suc n) s p = e (times f n s) (times-keeps n s p) ∙ ap f (times-commute h e n s p)

module _ (P : List ℕ → Type 0) where
  times-back : (f h : List ℕ → List ℕ) → Undo P f h → (n : ℕ) (s : List ℕ) → P s → times h n (times f n s) ≡ s
  unfolding times
  times-back f h u zero s p = refl
  times-back f h u (suc n) s p =
      ap (λ (t : List ℕ). times h (suc n) t) (sym (times-first f n s))
      ∙ ap h (times-back f h u n (f s) (u.forth-keeps s p))
      ∙ u.back-forth s p

-- two maps that undo each other do so taken n times, for every n
pub undo-times : {P : List ℕ → Type 0} {f h : List ℕ → List ℕ} → Undo P f h → (n : ℕ) → Undo P (times f n) (times h n)
undo-times {P} {f} {h} u n = record {
  forth-keeps = times-keeps P f u.forth-keeps n;
  back-keeps = times-keeps P h u.back-keeps n;
  back-forth = times-back P f h u n;
  forth-back = times-back P h f (undo-flip u) n;
}
