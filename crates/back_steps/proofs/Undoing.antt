-- Back beta and back gamma undo beta and gamma, which undo them: the first words of a block are the only ones that meet the condition
-- on the new words. Assumes nothing.
use mathlib.Core.Path.{◌≡◌, refl, sym, ap, ap₂, ◌∙◌}
use mathlib.Core.List.{List}
use Prim.Native.Nat.{ℕ, zero, suc, ◌+◌, ◌^◌, ◌<◌}
use native.Mathlib.Numerals.{add-one, add-two}
use native.Mathlib.Omega.{arith}
use lib.Dec.{lit<}
use lib.ListN.{get_or}
use lib.Pow.{pow_pos}
use lib.Bits.{bit_xor, xor_lt, xor_comm, xor_zero_r}
use Rattle.words.specs.Sequence.{tab}
use Rattle.words.specs.Word.{shl}
use Rattle.words.specs.Block.{Block}
use Rattle.words.specs.Undo.{Undo}
use Rattle.words.proofs.Lists.{get_or-tab, tab-ext}
use Rattle.words.proofs.Words.{shl_lt, shl-xor}
use Rattle.words.proofs.Xor.{xor_assoc, xor-left, xor-cancel-l, xor-cancel-r, xor-swap, same-where}
use Rattle.words.proofs.Blocks.{block-tab, block-is, block-ext}
use Rattle.masks.specs.Steps.{alpha_w, beta, gamma}
use Rattle.masks.specs.Run.{run}
use Rattle.masks.proofs.Laws.{beta-block, gamma-block}
use Rattle.masks.proofs.Run.{run-lt, run_at, run-new, run_of, run-beta, run-gamma}
use Rattle.back_steps.specs.Tables.{gamma_table}
use Rattle.back_steps.specs.BackSteps.{beta_run, beta_side, beta_word, back_beta, gamma_run, gamma_side, gamma_word, back_gamma}
use Rattle.back_steps.proofs.Solving.{beta_on, word-beta_word, beta-solved, beta-found, gamma_x, gamma_y, pair-gamma_word, gamma-solved, gamma-found}

-- sides that differ in the order alone
ruleset sorted = (xor_assoc, xor_comm, xor-left)

-- ---- backward beta

-- the run from x is the run from zero, xor x
beta-from : (b : List ℕ) (x i : ℕ) → beta_run b x i ≡ bit_xor x (beta_run b 0 i)
unfolding beta_run
beta-from b x zero = sym (xor_zero_r x)
beta-from b x (suc i) = ap (λ (z : ℕ). bit_xor z (get_or b i 0)) (beta-from b x i) ∙ xor_assoc x (beta_run b 0 i) (get_or b i 0)

beta-next : (b : List ℕ) (x i : ℕ) → beta_run b x (i + 1) ≡ bit_xor (beta_run b x i) (get_or b i 0)
unfolding beta_run
beta-next b x i = rw add-one

beta-fits : (b : List ℕ) → Block b → (x : ℕ) → x < 2 ^ 64 → (i : ℕ) → beta_run b x i < 2 ^ 64
unfolding beta_run
beta-fits b h x hx zero = hx
beta-fits b h x hx (suc i) = xor_lt 64 (beta_run b x i) (get_or b i 0) (beta-fits b h x hx i) (h.words i)

beta-side-lt : (b : List ℕ) → Block b → beta_side b < 2 ^ 64
unfolding beta_side
beta-side-lt b h = xor_lt 64 (beta_run b 0 16) (shl 13 (beta_run b 0 5)) (beta-fits b h 0 (pow_pos 64) 16) (shl_lt 13 (beta_run b 0 5))

-- the condition on the new word, and what the first word solves, are the same
beta-condition : (b : List ℕ) (x : ℕ) → bit_xor (alpha_w x (beta_run b x 5)) (beta_run b x 16) ≡ bit_xor (beta_on x) (beta_side b)
unfolding alpha_w beta_on beta_side
beta-condition b x = rw (beta-from b x 5, beta-from b x 16, shl-xor) (simp sorted)

-- the word that backward beta solves for
abbrev only_word : List ℕ → ℕ
only_word b = beta_word (beta_side b)

-- word i of beta of a block, from the block's run
beta-word : (s : List ℕ) → Block s → (i : ℕ) → i < 16 → get_or (beta s) i 0 ≡ bit_xor (run s (i + 1)) (run s i)
beta-word s h i p = sym (run_at (beta s) (beta-block s h).long i p) ∙ run-beta s h i

module _ (b : List ℕ) (h : Block b) where
  beta-word-lt : beta_word (beta_side b) < 2 ^ 64
  beta-word-lt = word-beta_word.fits (beta_side b) (beta-side-lt b h)

  back_beta-block : Block (back_beta b)
  unfolding back_beta
  back_beta-block = block-tab (beta_run b (only_word b)) (λ i p. beta-fits b h (only_word b) beta-word-lt i)

  -- the words of the solution go on as the run does
  beta-runs : (i : ℕ) → i < 17 → run (back_beta b) i ≡ beta_run b (only_word b) i
  unfolding back_beta beta_run
  beta-runs = run_of (back_beta b) back_beta-block.long u (λ i p. sym (get_or-tab u 16 i p)) 1 new
    where
      u : ℕ → ℕ
      u = beta_run b (only_word b)

      new : (n : ℕ) → n < 1 → u (n + 16) ≡ alpha_w (u n) (u (n + 5))
      new zero p = sym (same-where _ _ _ _ (beta-condition b (only_word b)) (beta-solved (beta_side b) (beta-side-lt b h)))
      new (suc n) p = absurd (omega arith)

  beta-back_beta : beta (back_beta b) ≡ b
  beta-back_beta = block-ext (beta (back_beta b)) b (beta-block (back_beta b) back_beta-block) h word
    where
      word : (i : ℕ) → i < 16 → get_or (beta (back_beta b)) i 0 ≡ get_or b i 0
      word i p =
          let x = only_word b in
          beta-word (back_beta b) back_beta-block i p ∙ ap₂ bit_xor (beta-runs (i + 1) (omega arith) ∙ beta-next b x i) (beta-runs i (omega arith))
          ∙ xor_comm (bit_xor (beta_run b x i) (get_or b i 0)) (beta_run b x i) ∙ xor-cancel-l (beta_run b x i) (get_or b i 0)

module _ (s : List ℕ) (h : Block s) where
  -- the run that starts with a block's first word is the block's
  beta-follows : (i : ℕ) → i < 17 → beta_run (beta s) (run s 0) i ≡ run s i
  unfolding beta_run
  beta-follows zero p = refl
  beta-follows (suc i) p =
      ap₂ bit_xor (beta-follows i (omega arith)) (beta-word s h i (omega arith) ∙ xor_comm (run s (i + 1)) (run s i))
      ∙ xor-cancel-l (run s i) (run s (i + 1)) ∙ ap (run s) (add-one i)

  beta-first-word : beta_word (beta_side (beta s)) ≡ run s 0
  beta-first-word =
      ap beta_word
      (sym (same-where _ _ _ _ (sym (beta-condition (beta s) (run s 0)))
      (ap (alpha_w (run s 0)) (beta-follows 5 (lit< tt)) ∙ sym (run-new s h.long 0) ∙ sym (beta-follows 16 (lit< tt)))))
      ∙ beta-found (run s 0) (run-lt s h 0)

  back_beta-beta : back_beta (beta s) ≡ s
  unfolding back_beta
  back_beta-beta =
      ap (λ (x : ℕ). tab (beta_run (beta s) x) 16) beta-first-word
      ∙ tab-ext (beta_run (beta s) (run s 0)) (λ i. get_or s i 0) 16 (λ i p. beta-follows i (omega arith) ∙ run_at s h.long i p)
      ∙ sym (block-is s h)

pub beta-undo : Undo Block beta back_beta
beta-undo = record { forth-keeps = beta-block; back-keeps = back_beta-block; back-forth = back_beta-beta; forth-back = beta-back_beta }

-- ---- backward gamma

-- what a run has on it of its first two words comes round after three
threefold : ℕ → ℕ → ℕ → ℕ
threefold x y zero = x
threefold x y (suc zero) = y
threefold x y (suc (suc zero)) = bit_xor y x
threefold x y (suc (suc (suc i))) = threefold x y i

threefold-next : (x y i : ℕ) → threefold x y (suc (suc i)) ≡ bit_xor (threefold x y (suc i)) (threefold x y i)
unfolding threefold
threefold-next x y zero = refl
threefold-next x y (suc zero) = sym (xor_comm (bit_xor y x) y ∙ xor-cancel-l y x)
threefold-next x y (suc (suc zero)) = sym (xor_comm x (bit_xor y x) ∙ xor-cancel-r y x)
threefold-next x y (suc (suc (suc i))) = threefold-next x y i

-- the run from x, y is the run from zeros, xor that; shown for i and i + 1 at once
gamma-from-both : (b : List ℕ) (x y i : ℕ)
    → (gamma_run b x y i ≡ bit_xor (threefold x y i) (gamma_run b 0 0 i)) × (gamma_run b x y (suc i) ≡ bit_xor (threefold x y (suc i)) (gamma_run b 0 0 (suc i)))
unfolding gamma_run threefold
gamma-from-both b x y zero = (sym (xor_zero_r x), sym (xor_zero_r y))
gamma-from-both b x y (suc i) =
    let both = gamma-from-both b x y i in (
      both.1,
      ap (λ (z : ℕ). bit_xor z (get_or b i 0))
          (ap₂ bit_xor both.1 both.0 ∙ xor-swap (threefold x y (suc i)) (gamma_run b 0 0 (suc i)) (threefold x y i) (gamma_run b 0 0 i))
          ∙ xor_assoc (bit_xor (threefold x y (suc i)) (threefold x y i)) (bit_xor (gamma_run b 0 0 (suc i)) (gamma_run b 0 0 i)) (get_or b i 0)
          ∙ ap (λ (z : ℕ). bit_xor z (gamma_run b 0 0 (suc (suc i)))) (sym (threefold-next x y i)),
    )

gamma-from : (b : List ℕ) (x y i : ℕ) → gamma_run b x y i ≡ bit_xor (threefold x y i) (gamma_run b 0 0 i)
gamma-from b x y i = (gamma-from-both b x y i).0

gamma-next : (b : List ℕ) (x y i : ℕ) → gamma_run b x y (i + 2) ≡ bit_xor (bit_xor (gamma_run b x y (i + 1)) (gamma_run b x y i)) (get_or b i 0)
unfolding gamma_run
gamma-next b x y i = rw (add-one, add-two)

-- the next word of the run, as a loop computes it
pub gamma-after : (b : List ℕ) (x y i u v : ℕ) → u ≡ gamma_run b x y i → v ≡ gamma_run b x y (i + 1)
    → bit_xor (bit_xor v u) (get_or b i 0) ≡ gamma_run b x y (i + 1 + 1)
gamma-after b x y i u v e f =
    let two : i + 2 ≡ i + 1 + 1 = omega arith in
    ap₂ (λ (p q : ℕ). bit_xor (bit_xor q p) (get_or b i 0)) e f ∙ sym (gamma-next b x y i) ∙ ap (gamma_run b x y) two

gamma-fits : (b : List ℕ) → Block b → (x y : ℕ) → x < 2 ^ 64 → y < 2 ^ 64 → (i : ℕ) → gamma_run b x y i < 2 ^ 64
unfolding gamma_run
gamma-fits b h x y hx hy zero = hx
gamma-fits b h x y hx hy (suc zero) = hy
gamma-fits b h x y hx hy (suc (suc i)) =
    xor_lt 64 (bit_xor (gamma_run b x y (suc i)) (gamma_run b x y i)) (get_or b i 0)
    (xor_lt 64 (gamma_run b x y (suc i)) (gamma_run b x y i) (gamma-fits b h x y hx hy (suc i)) (gamma-fits b h x y hx hy i)) (h.words i)

gamma-side-lt : (b : List ℕ) → Block b → (k : ℕ) → gamma_side b k < 2 ^ 64
unfolding gamma_side
gamma-side-lt b h k =
    xor_lt 64 (gamma_run b 0 0 (k + 16)) (shl 13 (gamma_run b 0 0 (k + 5))) (gamma-fits b h 0 0 (pow_pos 64) (pow_pos 64) (k + 16))
    (shl_lt 13 (gamma_run b 0 0 (k + 5)))

-- the conditions on the two new words, and what the first two words solve, are the same
first-condition : (x y p q : ℕ) → bit_xor (alpha_w x (bit_xor (bit_xor y x) p)) (bit_xor y q) ≡ bit_xor (gamma_x x y) (bit_xor q (shl 13 p))
unfolding alpha_w gamma_x
first-condition x y p q = rw (shl-xor 13 (bit_xor y x) p, shl-xor 13 y x) (simp sorted)

second-condition : (x y p q : ℕ) → bit_xor (alpha_w y (bit_xor x p)) (bit_xor (bit_xor y x) q) ≡ bit_xor (gamma_y x y) (bit_xor q (shl 13 p))
unfolding alpha_w gamma_y
second-condition x y p q = rw shl-xor (simp sorted)

module _ (b : List ℕ) (x y : ℕ) where
  gamma-condition-x : bit_xor (alpha_w x (gamma_run b x y 5)) (gamma_run b x y 16) ≡ bit_xor (gamma_x x y) (gamma_side b 0)
  unfolding gamma_side threefold
  gamma-condition-x =
      ap₂ (λ (p q : ℕ). bit_xor (alpha_w x p) q) (gamma-from b x y 5) (gamma-from b x y 16) ∙ first-condition x y (gamma_run b 0 0 5) (gamma_run b 0 0 16)

  gamma-condition-y : bit_xor (alpha_w y (gamma_run b x y 6)) (gamma_run b x y 17) ≡ bit_xor (gamma_y x y) (gamma_side b 1)
  unfolding gamma_side threefold
  gamma-condition-y =
      ap₂ (λ (p q : ℕ). bit_xor (alpha_w y p) q) (gamma-from b x y 6) (gamma-from b x y 17) ∙ second-condition x y (gamma_run b 0 0 6) (gamma_run b 0 0 17)

-- the two words that backward gamma solves for
abbrev first_word : List ℕ → ℕ
first_word b = gamma_word gamma_table 0 (gamma_side b 0) (gamma_side b 1)

abbrev second_word : List ℕ → ℕ
second_word b = gamma_word gamma_table 1 (gamma_side b 0) (gamma_side b 1)

-- word i of gamma of a block, from the block's run
gamma-word : (s : List ℕ) → Block s → (i : ℕ) → i < 16 → get_or (gamma s) i 0 ≡ bit_xor (bit_xor (run s (i + 2)) (run s (i + 1))) (run s i)
gamma-word s h i p = sym (run_at (gamma s) (gamma-block s h).long i p) ∙ run-gamma s h i

module _ (b : List ℕ) (h : Block b) where
  gamma-word-lt : (at : ℕ) → gamma_word gamma_table at (gamma_side b 0) (gamma_side b 1) < 2 ^ 64
  gamma-word-lt at = (pair-gamma_word at).fits (gamma_side b 0) (gamma_side b 1) (gamma-side-lt b h 0) (gamma-side-lt b h 1)

  back_gamma-block : Block (back_gamma b)
  unfolding back_gamma
  back_gamma-block =
      block-tab (gamma_run b (first_word b) (second_word b)) (λ i p. gamma-fits b h (first_word b) (second_word b) (gamma-word-lt 0) (gamma-word-lt 1) i)

  -- the words of the solution go on as the run does
  gamma-runs : (i : ℕ) → i < 18 → run (back_gamma b) i ≡ gamma_run b (first_word b) (second_word b) i
  unfolding back_gamma gamma_run
  gamma-runs = run_of (back_gamma b) back_gamma-block.long u (λ i p. sym (get_or-tab u 16 i p)) 2 new
    where
      u : ℕ → ℕ
      u = gamma_run b (first_word b) (second_word b)

      solved : (gamma_x (first_word b) (second_word b) ≡ gamma_side b 0) × (gamma_y (first_word b) (second_word b) ≡ gamma_side b 1)
      solved = gamma-solved (gamma_side b 0) (gamma_side b 1) (gamma-side-lt b h 0) (gamma-side-lt b h 1)

      new : (n : ℕ) → n < 2 → u (n + 16) ≡ alpha_w (u n) (u (n + 5))
      new zero p = sym (same-where _ _ _ _ (gamma-condition-x b (first_word b) (second_word b)) solved.0)
      new (suc zero) p = sym (same-where _ _ _ _ (gamma-condition-y b (first_word b) (second_word b)) solved.1)
      new (suc (suc n)) p = absurd (omega arith)

  gamma-back_gamma : gamma (back_gamma b) ≡ b
  gamma-back_gamma = block-ext (gamma (back_gamma b)) b (gamma-block (back_gamma b) back_gamma-block) h word
    where
      word : (i : ℕ) → i < 16 → get_or (gamma (back_gamma b)) i 0 ≡ get_or b i 0
      word i p =
          let u = gamma_run b (first_word b) (second_word b) in
          gamma-word (back_gamma b) back_gamma-block i p
          ∙ ap₂ bit_xor
          (ap₂ bit_xor (gamma-runs (i + 2) (omega arith) ∙ gamma-next b (first_word b) (second_word b) i) (gamma-runs (i + 1) (omega arith)))
          (gamma-runs i (omega arith))
          ∙ xor_assoc (bit_xor (bit_xor (u (i + 1)) (u i)) (get_or b i 0)) (u (i + 1)) (u i)
          ∙ xor_comm (bit_xor (bit_xor (u (i + 1)) (u i)) (get_or b i 0)) (bit_xor (u (i + 1)) (u i))
          ∙ xor-cancel-l (bit_xor (u (i + 1)) (u i)) (get_or b i 0)

module _ (s : List ℕ) (h : Block s) where
  -- the run that starts with a block's first two words is the block's
  gamma-follows : (i : ℕ) → i < 18 → gamma_run (gamma s) (run s 0) (run s 1) i ≡ run s i
  unfolding gamma_run
  gamma-follows zero p = refl
  gamma-follows (suc zero) p = refl
  gamma-follows (suc (suc i)) p =
      ap₂ bit_xor
      (ap₂ bit_xor (gamma-follows (suc i) (omega arith) ∙ ap (run s) (sym (add-one i))) (gamma-follows i (omega arith)))
      (gamma-word s h i (omega arith) ∙ xor_assoc (run s (i + 2)) (run s (i + 1)) (run s i) ∙ xor_comm (run s (i + 2)) (bit_xor (run s (i + 1)) (run s i)))
      ∙ xor-cancel-l (bit_xor (run s (i + 1)) (run s i)) (run s (i + 2)) ∙ ap (run s) (add-two i)

  gamma-new : (n : ℕ) → n < 2
      → alpha_w (run s n) (gamma_run (gamma s) (run s 0) (run s 1) (n + 5)) ≡ gamma_run (gamma s) (run s 0) (run s 1) (n + 16)
  gamma-new n p =
      ap (alpha_w (run s n)) (gamma-follows (n + 5) (omega arith)) ∙ sym (run-new s h.long n) ∙ sym (gamma-follows (n + 16) (omega arith))

  back_gamma-gamma : back_gamma (gamma s) ≡ s
  unfolding back_gamma
  back_gamma-gamma =
      let found = gamma-found (run s 0) (run s 1) (run-lt s h 0) (run-lt s h 1) in
      let x = sym (same-where _ _ _ _ (sym (gamma-condition-x (gamma s) (run s 0) (run s 1))) (gamma-new 0 (lit< tt))) in
      let y = sym (same-where _ _ _ _ (sym (gamma-condition-y (gamma s) (run s 0) (run s 1))) (gamma-new 1 (lit< tt))) in
      ap₂ (λ (x y : ℕ). tab (gamma_run (gamma s) x y) 16)
      (ap₂ (gamma_word gamma_table 0) x y ∙ found.0)
      (ap₂ (gamma_word gamma_table 1) x y ∙ found.1)
      ∙ tab-ext (gamma_run (gamma s) (run s 0) (run s 1)) (λ i. get_or s i 0) 16 (λ i p. gamma-follows i (omega arith) ∙ run_at s h.long i p)
      ∙ sym (block-is s h)

pub gamma-undo : Undo Block gamma back_gamma
gamma-undo = record { forth-keeps = gamma-block; back-keeps = back_gamma-block; back-forth = back_gamma-gamma; forth-back = gamma-back_gamma }
