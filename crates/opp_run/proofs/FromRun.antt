-- The plan of OPP under masks out of a run. Assumes nothing.
use mathlib.Core.Path.{◌≡◌, sym, ap, ◌∙◌}
use mathlib.Core.Bool.{Bool, false}
use mathlib.Core.List.{List, ◌++◌}
use Prim.Native.Nat.{ℕ, ◌+◌, ◌≤◌, ◌<◌}
use native.Mathlib.Omega.{arith}
use lib.ListN.{length, get_or, take, get_or-append}
use Rattle.words.specs.Sequence.{tab}
use Rattle.words.specs.Block.{Block}
use Rattle.words.proofs.Lists.{length-tab, tab-ext, get_or-tab}
use Rattle.masks.specs.Steps.{beta}
use Rattle.masks.specs.Run.{neighbours, mask_from, IsRun}
use Rattle.mem.specs.Mem.{mask_at, E}
use Rattle.mem.proofs.Laws.{mask-beta}
use Rattle.runs.proofs.Planned.{plan-alpha, plan-gamma}
use Rattle.blockplan.specs.Plan.{whole, absorb_at, xor_over}
use Rattle.blockplan.specs.Pass.{made_at, under, planned, Passed}
use Rattle.blockplan.proofs.Passes.{sum-agree, passed-agree}

module _ (w : List ℕ) (is : IsRun w) (b : Block (take 16 w)) (s : List ℕ) (room : whole s + 21 ≤ length w) where
  gamma-at : (i : ℕ) → i ≤ whole s + 3 → mask_from 2 w i ≡ mask_at (take 16 w) i 0 1
  gamma-at i h = plan-gamma w is b i (omega arith)

  module _ (g rest : List ℕ) (made : g ≡ tab (neighbours 2 w) (whole s + 16) ++ rest) where
    -- one word of the gamma masks
    word_at : (t : ℕ) → t < whole s + 16 → get_or g t 0 ≡ neighbours 2 w t
    word_at t h =
        ap (λ (l : List ℕ). get_or l t 0) made ∙ get_or-append (tab (neighbours 2 w) (whole s + 16)) rest 0 t (rw (length-tab (neighbours 2 w) (whole s + 16)) h)
        ∙ get_or-tab (neighbours 2 w) (whole s + 16) t h

    made-at : (i : ℕ) → i ≤ whole s → mask_from 0 g i ≡ mask_at (take 16 w) i 0 1
    unfolding mask_from neighbours
    made-at i h = tab-ext (λ j. get_or g (i + j) 0) (λ j. neighbours 2 w (i + j)) 16 (λ j p. word_at (i + j) (omega arith)) ∙ gamma-at i (omega arith)

    -- the whole blocks are passed as planned
    pub blocks-from-run : (opening : Bool) (rounds : ℕ) {old new sum next : List ℕ} → Passed opening rounds (mask_from 0 g) s (whole s) old new sum next
        → Passed opening rounds (planned (take 16 w) 0 1) s (whole s) old new sum next
    unfolding planned
    blocks-from-run opening rounds p = passed-agree opening rounds (mask_from 0 g) (planned (take 16 w) 0 1) s (whole s) made-at p

    -- the leftover's mask
    pub left-mask : (mask : List ℕ) → mask ≡ mask_at (take 16 w) (whole s) 1 1 → mask ≡ beta (mask_from 0 g (whole s))
    left-mask mask e = e ∙ sym (mask-beta (take 16 w) b (whole s) 0 1) ∙ ap beta (sym (made-at (whole s) (omega arith)))

  -- the sum over a header's whole blocks
  pub header-from-run : (rounds : ℕ) → xor_over (made_at (under false rounds (mask_from 0 w)) s) (whole s) ≡ xor_over (absorb_at rounds (take 16 w) 0 s) (whole s)
  unfolding absorb_at made_at under planned E
  header-from-run rounds = sum-agree false rounds (mask_from 0 w) (planned (take 16 w) 0 0) s (whole s) (λ i h. plan-alpha w is b i (omega arith))
