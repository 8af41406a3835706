-- The plan's masks out of a run: (n, j, 0) and (n, j, 1) for the j that the plan asks for. Assumes nothing.
use mathlib.Core.Path.{◌≡◌, sym, ap, ap₂, ◌∙◌}
use mathlib.Core.List.{List}
use Prim.Native.Nat.{ℕ, suc, ◌+◌, ◌^◌, ◌≤◌, ◌<◌}
use native.Mathlib.Numerals.{add-one}
use native.Mathlib.Omega.{arith}
use lib.ListN.{length, get_or, take}
use lib.Seq.{get_or-take, length-take-le}
use Rattle.words.specs.Sequence.{times}
use Rattle.words.specs.Block.{Block, xor_block, zero_block}
use Rattle.words.proofs.Blocks.{block-of, xor_block-assoc, xor_block-comm, xor_block-self, xor_block-zero}
use Rattle.masks.specs.Steps.{alpha, beta}
use Rattle.masks.specs.Run.{mask_from, IsRun}
use Rattle.masks.proofs.Run.{from-alpha, from-beta, from-gamma}
use Rattle.runs.specs.declared.kinds.Kind.{Kind}
use Rattle.runs.specs.declared.kinds.Kind.TheVariants.{Alpha, Beta, Gamma}
use Rattle.runs.specs.Kinds.{neighbours_in, beta_steps, gamma_steps}
use Rattle.mem.specs.Mem.{mask_at}
use Rattle.mem.proofs.Laws.{mask-block, mask-alpha, mask-beta}

-- the first sixteen words of a list of words are a block
pub first_block : (w : List ℕ) → 16 ≤ length w → ((i : ℕ) → get_or w i 0 < 2 ^ 64) → Block (take 16 w)
first_block w long fits = block-of (take 16 w) (length-take-le 16 w long) (λ i h. rw (get_or-take 16 w i 0 h) (fits i))

-- ---- beta steps by masks further on

module _ (start : List ℕ) (b : Block start) (n j k : ℕ) where
  -- an alpha step more
  on : mask_at start (n + 1) j k ≡ alpha (mask_at start n j k)
  unfolding times
  on = ap (λ (i : ℕ). mask_at start i j k) (add-one n) ∙ mask-alpha start b (suc n) j k ∙ ap alpha (sym (mask-alpha start b n j k))

  pub beta-on : xor_block (mask_at start (n + 1) j k) (mask_at start n j k) ≡ mask_at start n (suc j) k
  unfolding beta
  beta-on = ap (λ (s : List ℕ). xor_block s (mask_at start n j k)) on ∙ mask-beta start b n j k

-- the middle cancels
cancelled : (a b c : List ℕ) → Block c → xor_block (xor_block a b) (xor_block b c) ≡ xor_block a c
cancelled a b c h =
    xor_block-assoc a b (xor_block b c)
    ∙ ap (xor_block a) (sym (xor_block-assoc b b c) ∙ ap (λ (s : List ℕ). xor_block s c) (xor_block-self b) ∙ xor_block-comm zero_block c ∙ xor_block-zero c h)

pub beta-two : (start : List ℕ) → Block start → (n j k : ℕ) → xor_block (mask_at start (n + 2) j k) (mask_at start n j k) ≡ mask_at start n (suc (suc j)) k
beta-two start b n j k =
    let e : n + 2 ≡ n + 1 + 1 = omega arith in
    ap (λ (i : ℕ). xor_block (mask_at start i j k) (mask_at start n j k)) e
    ∙ sym (cancelled (mask_at start (n + 1 + 1) j k) (mask_at start (n + 1) j k) (mask_at start n j k) (mask-block start b n j k))
    ∙ ap₂ xor_block (beta-on start b (n + 1) j k) (beta-on start b n j k)
    ∙ beta-on start b n (suc j) k

pub beta-three : (start : List ℕ) → Block start → (n j k : ℕ)
    → xor_block (xor_block (mask_at start (n + 2 + 1) j k) (mask_at start (n + 2) j k)) (xor_block (mask_at start (n + 1) j k) (mask_at start n j k))
    ≡ mask_at start n (suc (suc (suc j))) k
beta-three start b n j k = ap₂ xor_block (beta-on start b (n + 2) j k) (beta-on start b n j k) ∙ beta-two start b n (suc j) k

-- ---- the plan's masks

module _ (w : List ℕ) (is : IsRun w) (b : Block (take 16 w)) (n : ℕ) where
  pub plan-alpha : n + 16 ≤ length w → mask_from 0 w n ≡ mask_at (take 16 w) n 0 0
  unfolding mask_at times
  plan-alpha h = from-alpha w is b n h

  pub plan-beta : n + 17 ≤ length w → mask_from 1 w n ≡ mask_at (take 16 w) n 1 0
  unfolding mask_at times
  plan-beta h = from-beta w is b n h

  pub plan-gamma : n + 18 ≤ length w → mask_from 2 w n ≡ mask_at (take 16 w) n 0 1
  unfolding mask_at times
  plan-gamma h = from-gamma w is b n h

  -- a mask of any kind
  pub plan-kind : (kind : Kind) → n + 18 ≤ length w → mask_from (neighbours_in kind) w n ≡ mask_at (take 16 w) n (beta_steps kind) (gamma_steps kind)
  plan-kind Alpha h = plan-alpha (omega arith)
  plan-kind Beta h = plan-beta (omega arith)
  plan-kind Gamma h = plan-gamma h

-- ---- beta steps on from a mask of any kind

module _ (w : List ℕ) (is : IsRun w) (b : Block (take 16 w)) (n : ℕ) (kind : Kind) where
  pub kind-on : n + 19 ≤ length w → xor_block (mask_from (neighbours_in kind) w (n + 1)) (mask_from (neighbours_in kind) w n) ≡ mask_at (take 16 w) n (beta_steps kind + 1) (gamma_steps kind)
  kind-on h =
      ap₂ xor_block (plan-kind w is b (n + 1) kind (omega arith)) (plan-kind w is b n kind (omega arith))
      ∙ beta-on (take 16 w) b n (beta_steps kind) (gamma_steps kind)
      ∙ ap (λ (j : ℕ). mask_at (take 16 w) n j (gamma_steps kind)) (omega arith)

  pub kind-two : n + 20 ≤ length w → xor_block (mask_from (neighbours_in kind) w (n + 2)) (mask_from (neighbours_in kind) w n) ≡ mask_at (take 16 w) n (beta_steps kind + 2) (gamma_steps kind)
  kind-two h =
      ap₂ xor_block (plan-kind w is b (n + 2) kind (omega arith)) (plan-kind w is b n kind (omega arith))
      ∙ beta-two (take 16 w) b n (beta_steps kind) (gamma_steps kind)
      ∙ ap (λ (j : ℕ). mask_at (take 16 w) n j (gamma_steps kind)) (omega arith)

  pub kind-three : n + 21 ≤ length w
      → xor_block (xor_block (mask_from (neighbours_in kind) w (n + 2 + 1)) (mask_from (neighbours_in kind) w (n + 2))) (xor_block (mask_from (neighbours_in kind) w (n + 1)) (mask_from (neighbours_in kind) w n))
      ≡ mask_at (take 16 w) n (beta_steps kind + 3) (gamma_steps kind)
  kind-three h =
      ap₂ xor_block (ap₂ xor_block (plan-kind w is b (n + 2 + 1) kind (omega arith)) (plan-kind w is b (n + 2) kind (omega arith)))
      (ap₂ xor_block (plan-kind w is b (n + 1) kind (omega arith)) (plan-kind w is b n kind (omega arith)))
      ∙ beta-three (take 16 w) b n (beta_steps kind) (gamma_steps kind)
      ∙ ap (λ (j : ℕ). mask_at (take 16 w) n j (gamma_steps kind)) (omega arith)
