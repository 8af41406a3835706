-- Steps and their back steps on blocks, any two of which commute: how often each is taken decides where they lead. Assumes nothing.
use mathlib.Core.Path.{◌≡◌, refl, sym, ap, ◌∙◌}
use mathlib.Core.List.{List}
use Prim.Native.Nat.{ℕ, zero, suc}
use lib.IntN.{ℤ, pos, negsuc, suc_ℤ, pred_ℤ, neg_ℤ, ◌+ℤ◌, ◌-ℤ◌, suc_ℤ-+ℤ, neg_ℤ-suc_ℤ, +ℤ-pred_ℤ}
use Rattle.words.specs.Sequence.{times}
use Rattle.words.specs.Block.{Block}
use Rattle.words.specs.Undo.{Undo}
use Rattle.words.proofs.Maps.{Keeps, Commute, turn, commute-back}
use Rattle.words.proofs.Times.{times-first, times-keeps, times-commute}
use Rattle.walking.specs.Walking.{net_steps}

module _ {f g : List ℕ → List ℕ} (undo : Undo Block f g) where
  -- one step on, then z: one more than z
  net_steps-suc : (z : ℤ) (s : List ℕ) → Block s → net_steps f g z (f s) ≡ net_steps f g (suc_ℤ z) s
  unfolding net_steps times
  net_steps-suc (pos n) s b = times-first f n s
  net_steps-suc (negsuc zero) s b = undo.back-forth s b
  net_steps-suc (negsuc (suc n)) s b = sym (times-first g (suc n) (f s)) ∙ ap (times g (suc n)) (undo.back-forth s b)

  -- one step back, then z: one less than z
  net_steps-pred : (z : ℤ) (s : List ℕ) → Block s → net_steps f g z (g s) ≡ net_steps f g (pred_ℤ z) s
  unfolding net_steps times
  net_steps-pred (pos zero) s b = refl
  net_steps-pred (pos (suc n)) s b = sym (times-first f n (g s)) ∙ ap (times f n) (undo.forth-back s b)
  net_steps-pred (negsuc n) s b = times-first g (suc n) s

  -- the same, by how many steps on and back were counted
  pub net_steps-more : (m n : ℕ) (s : List ℕ) → Block s → net_steps f g (pos m -ℤ pos n) (f s) ≡ net_steps f g (pos (suc m) -ℤ pos n) s
  net_steps-more m n s b = net_steps-suc (pos m -ℤ pos n) s b ∙ ap (λ (z : ℤ). net_steps f g z s) (sym (suc_ℤ-+ℤ (pos m) (neg_ℤ (pos n))))

  pub net_steps-less : (m n : ℕ) (s : List ℕ) → Block s → net_steps f g (pos m -ℤ pos n) (g s) ≡ net_steps f g (pos m -ℤ pos (suc n)) s
  net_steps-less m n s b =
      net_steps-pred (pos m -ℤ pos n) s b
      ∙ ap (λ (z : ℤ). net_steps f g z s) (sym (ap (λ (z : ℤ). pos m +ℤ z) (neg_ℤ-suc_ℤ (pos n)) ∙ +ℤ-pred_ℤ (pos m) (neg_ℤ (pos n))))

  pub net_steps-keeps : (z : ℤ) → Keeps Block (net_steps f g z)
  unfolding net_steps
  net_steps-keeps (pos n) s b = times-keeps Block f undo.forth-keeps n s b
  net_steps-keeps (negsuc n) s b = times-keeps Block g undo.back-keeps (suc n) s b

  pub net_steps-commute : (h : List ℕ → List ℕ) → Keeps Block h → Commute Block h f → (z : ℤ) → Commute Block h (net_steps f g z)
  unfolding net_steps
  net_steps-commute h keeps e (pos n) s b = times-commute Block f undo.forth-keeps h e n s b
  net_steps-commute h keeps e (negsuc n) s b = times-commute Block g undo.back-keeps h (turn g h (commute-back undo h keeps (turn h f e))) (suc n) s b
