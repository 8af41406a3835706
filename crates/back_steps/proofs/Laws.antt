-- The laws of the back steps: a step and its back step undo each other and keep exclusive or, and a back step's value is the only
-- block whose forward step gives the block at hand. Assumes nothing.
use mathlib.Core.Path.{◌≡◌, sym, ap, ap₂, ◌∙◌}
use mathlib.Core.List.{List}
use Prim.Native.Nat.{ℕ}
use Rattle.words.specs.Block.{Block, xor_block}
use Rattle.words.specs.Undo.{Undo}
use Rattle.words.proofs.Blocks.{xor-block}
use Rattle.words.proofs.Maps.{undo-flip}
use Rattle.masks.specs.Steps.{alpha, beta, gamma, OnlyBlock}
use Rattle.masks.proofs.Laws.{Linear, alpha-linear, beta-linear, gamma-linear}
use Rattle.back_steps.specs.BackSteps.{back_alpha, back_beta, back_gamma, BackSteps}
use Rattle.back_steps.proofs.BackAlpha.{alpha-undo}
use Rattle.back_steps.proofs.Undoing.{beta-undo, gamma-undo}

-- ---- what a step's way back gives

module _ {f g : List ℕ → List ℕ} (undo : Undo Block f g) where
  -- the only block whose forward step gives the block at hand
  pub only-back : (s : List ℕ) → Block s → OnlyBlock f s (g s)
  only-back s h = record {
    block = undo.back-keeps s h;
    leads = undo.forth-back s h;
    only = λ t ht e. sym (undo.back-forth t ht) ∙ ap g e;
  }

  -- what a back step's contract says of a block that is the definition's
  pub back-meets : (s r : List ℕ) → Block s → r ≡ g s → (r ≡ g s) × OnlyBlock f s r
  back-meets s r h e = (e, rw e (only-back s h))

  -- the way back of a step that keeps exclusive or keeps it too
  back-linear : Linear f → Linear g
  back-linear linear s t hs ht =
      let bs = undo.back-keeps s hs in
      let bt = undo.back-keeps t ht in
      sym (ap g (linear (g s) (g t) bs bt ∙ ap₂ xor_block (undo.forth-back s hs) (undo.forth-back t ht)))
      ∙ undo.back-forth (xor_block (g s) (g t)) (xor-block (g s) (g t) bs bt)

-- each back step's value is the only block whose forward step gives the block at hand
pub back-steps : BackSteps
back-steps = record { alpha-only = only-back alpha-undo; beta-only = only-back beta-undo; gamma-only = only-back gamma-undo }

-- ---- steps that keep exclusive or

-- a step and its way back: they undo each other on blocks, and the step keeps exclusive or
pub record Step (forward back : List ℕ → List ℕ) : Type 0 where
  pub undo : Undo Block forward back
  pub linear : Linear forward

pub alpha-step : Step alpha back_alpha
alpha-step = record { undo = alpha-undo; linear = alpha-linear }

pub beta-step : Step beta back_beta
beta-step = record { undo = beta-undo; linear = beta-linear }

pub gamma-step : Step gamma back_gamma
gamma-step = record { undo = gamma-undo; linear = gamma-linear }

-- the way back is such a step too
pub back_step : {f g : List ℕ → List ℕ} → Step f g → Step g f
back_step step = record { undo = undo-flip step.undo; linear = back-linear step.undo step.linear }
