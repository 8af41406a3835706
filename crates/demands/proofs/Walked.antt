-- Where a list leads is decided by its three net counts. Assumes nothing.
use mathlib.Core.Path.{◌≡◌, refl, sym, ap, ◌∙◌}
use mathlib.Core.List.{List, [], ◌∷◌}
use Prim.Native.Nat.{ℕ, zero, suc, ◌+◌, ◌<◌}
use native.Mathlib.Omega.{arith}
use lib.IntN.{ℤ}
use borrow.Author.Tests.{ne_eqb}
use Rattle.words.specs.Sequence.{times}
use Rattle.words.specs.Block.{Block}
use Rattle.words.proofs.Maps.{Keeps, Commute, turn, undo-same, commute-back}
use Rattle.masks.specs.Steps.{alpha, beta, gamma}
use Rattle.masks.proofs.Laws.{Linear, alpha-beta, alpha-gamma, beta-gamma}
use Rattle.back_steps.specs.BackSteps.{back_alpha, back_beta, back_gamma}
use Rattle.back_steps.proofs.BackAlpha.{alpha-undo}
use Rattle.back_steps.proofs.Undoing.{beta-undo, gamma-undo}
use Rattle.back_steps.proofs.Laws.{Step, alpha-step, beta-step, gamma-step, back_step}
use Rattle.walking.specs.Walking.{step, walked, net_steps, jumped}
use Rattle.demands.specs.Demand3.{count, net}
use Rattle.demands.proofs.Order.{net_steps-more, net_steps-less, net_steps-keeps, net_steps-commute}

-- ---- a move ahead of a jump counts for its own kind

module _ (i j k : ℤ) (s : List ℕ) (b : Block s) where
  first : (h : List ℕ → List ℕ) (i' : ℤ) → net_steps alpha back_alpha i (h s) ≡ net_steps alpha back_alpha i' s → jumped i j k (h s) ≡ jumped i' j k s
  unfolding jumped
  first h i' e = ap (λ (x : List ℕ). net_steps gamma back_gamma k (net_steps beta back_beta j x)) e

  reached : Block (net_steps alpha back_alpha i s)
  reached = net_steps-keeps alpha-undo i s b

  second : (h : List ℕ → List ℕ) (j' : ℤ) → Keeps Block h → Commute Block h alpha
      → ((t : List ℕ) → Block t → net_steps beta back_beta j (h t) ≡ net_steps beta back_beta j' t) → jumped i j k (h s) ≡ jumped i j' k s
  unfolding jumped
  second h j' keeps c e =
      ap (net_steps gamma back_gamma k)
      (ap (net_steps beta back_beta j) (sym (net_steps-commute alpha-undo h keeps c i s b))
      ∙ e (net_steps alpha back_alpha i s) reached)

  third : (h : List ℕ → List ℕ) (k' : ℤ) → Keeps Block h → Commute Block h alpha → Commute Block h beta
      → ((t : List ℕ) → Block t → net_steps gamma back_gamma k (h t) ≡ net_steps gamma back_gamma k' t) → jumped i j k (h s) ≡ jumped i j k' s
  unfolding jumped
  third h k' keeps c d e =
      ap (λ (x : List ℕ). net_steps gamma back_gamma k (net_steps beta back_beta j x)) (sym (net_steps-commute alpha-undo h keeps c i s b))
      ∙ ap (net_steps gamma back_gamma k) (sym (net_steps-commute beta-undo h keeps d j (net_steps alpha back_alpha i s) reached))
      ∙ e (net_steps beta back_beta j (net_steps alpha back_alpha i s)) (net_steps-keeps beta-undo j (net_steps alpha back_alpha i s) reached)

-- ---- any two moves commute

beta-alpha : Commute Block beta alpha
beta-alpha = turn alpha beta alpha-beta

gamma-alpha : Commute Block gamma alpha
gamma-alpha = turn alpha gamma alpha-gamma

gamma-beta : Commute Block gamma beta
gamma-beta = turn beta gamma beta-gamma

back_beta-alpha : Commute Block back_beta alpha
back_beta-alpha = commute-back beta-undo alpha alpha-undo.forth-keeps beta-alpha

back_gamma-alpha : Commute Block back_gamma alpha
back_gamma-alpha = commute-back gamma-undo alpha alpha-undo.forth-keeps gamma-alpha

back_gamma-beta : Commute Block back_gamma beta
back_gamma-beta = commute-back gamma-undo beta beta-undo.forth-keeps gamma-beta

-- ---- the whole list

-- a byte that is no step adds to no net count
net-other : (kind k : ℕ) (l : List ℕ) → (k ≡ kind → ⊥) → (k ≡ kind + 3 → ⊥) → net kind l ≡ net kind (k ∷ l)
unfolding net count
net-other kind k l h g = rw (ne_eqb k kind h, ne_eqb k (kind + 3) g)

stays : (k : ℕ) → 6 < k → (l s : List ℕ) → jumped (net 1 l) (net 2 l) (net 3 l) s ≡ jumped (net 1 (k ∷ l)) (net 2 (k ∷ l)) (net 3 (k ∷ l)) s
stays k h l s =
    rw (
      net-other 1 k l (λ e. omega arith) (λ e. omega arith),
      net-other 2 k l (λ e. omega arith) (λ e. omega arith),
      net-other 3 k l (λ e. omega arith) (λ e. omega arith),
    )

-- a step ahead of a jump by a list's net counts is a jump by those of the list with that step
ahead : (k : ℕ) (l s : List ℕ) → Block s
    → jumped (net 1 l) (net 2 l) (net 3 l) (step k s) ≡ jumped (net 1 (k ∷ l)) (net 2 (k ∷ l)) (net 3 (k ∷ l)) s
unfolding step net count
ahead zero l s b = refl
ahead (suc zero) l s b = first _ _ _ s b alpha _ (net_steps-more alpha-undo (count 1 l) (count 4 l) s b)
ahead (suc (suc zero)) l s b = second _ _ _ s b beta _ beta-undo.forth-keeps beta-alpha (net_steps-more beta-undo (count 2 l) (count 5 l))
ahead (suc (suc (suc zero))) l s b = third _ _ _ s b gamma _ gamma-undo.forth-keeps gamma-alpha gamma-beta (net_steps-more gamma-undo (count 3 l) (count 6 l))
ahead (suc (suc (suc (suc zero)))) l s b = first _ _ _ s b back_alpha _ (net_steps-less alpha-undo (count 1 l) (count 4 l) s b)
ahead (suc (suc (suc (suc (suc zero))))) l s b = second _ _ _ s b back_beta _ beta-undo.back-keeps back_beta-alpha (net_steps-less beta-undo (count 2 l) (count 5 l))
ahead (suc (suc (suc (suc (suc (suc zero)))))) l s b =
    third _ _ _ s b back_gamma _ gamma-undo.back-keeps back_gamma-alpha back_gamma-beta (net_steps-less gamma-undo (count 3 l) (count 6 l))
ahead (suc (suc (suc (suc (suc (suc (suc k))))))) l s b = stays (suc (suc (suc (suc (suc (suc (suc k))))))) (omega arith) l s

stay : Step (λ s. s) (λ s. s)
stay = record { undo = undo-same; linear = λ s t b d. refl }

-- a step and its way back; a byte that is no step is its own
pub moves : (k : ℕ) → (back : List ℕ → List ℕ) × Step (step k) back
unfolding step
moves zero = (_, stay)
moves (suc zero) = (back_alpha, alpha-step)
moves (suc (suc zero)) = (back_beta, beta-step)
moves (suc (suc (suc zero))) = (back_gamma, gamma-step)
moves (suc (suc (suc (suc zero)))) = (alpha, back_step alpha-step)
moves (suc (suc (suc (suc (suc zero))))) = (beta, back_step beta-step)
moves (suc (suc (suc (suc (suc (suc zero)))))) = (gamma, back_step gamma-step)
moves (suc (suc (suc (suc (suc (suc (suc k))))))) = (_, stay)

step_keeps : (k : ℕ) → Keeps Block (step k)
step_keeps k = (moves k).1.undo.forth-keeps

nowhere : (s : List ℕ) → s ≡ jumped (net 1 []) (net 2 []) (net 3 []) s
unfolding jumped net_steps net count times
nowhere s = refl

pub leads : (l s : List ℕ) → Block s → walked l s ≡ jumped (net 1 l) (net 2 l) (net 3 l) s
unfolding walked
leads [] s b = nowhere s
leads (k ∷ l) s b = leads l (step k s) (step_keeps k s b) ∙ ahead k l s b

-- a list keeps exclusive or
pub walked-linear : (l : List ℕ) → Linear (walked l)
unfolding walked
walked-linear [] s t b d = refl
walked-linear (k ∷ l) s t b d =
    ap (walked l) ((moves k).1.linear s t b d)
    ∙ walked-linear l (step k s) (step k t) (step_keeps k s b) (step_keeps k t d)
