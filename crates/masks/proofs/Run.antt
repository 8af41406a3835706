-- The run of words: words n to n + 15 are the mask after n alpha steps, and the masks of beta and gamma come out of neighbouring
-- words. Assumes nothing.
use mathlib.Core.Path.{◌≡◌, refl, sym, ap, ap₂, ◌∙◌}
use mathlib.Core.List.{List, [], ◌∷◌, ◌++◌}
use Prim.Native.Nat.{ℕ, zero, suc, ◌+◌, ◌-◌, ◌^◌, ◌≤◌, ◌<◌}
use native.Mathlib.Nat.{add-zero, zero-add}
use native.Mathlib.Numerals.{add-one, add-two}
use native.Mathlib.Omega.{arith}
use native.Mathlib.Decide.{dec_lt}
use lib.Dec.{lit<}
use lib.ListN.{length, get_or, take, drop, length-append, get_or-append}
use lib.Seq.{drop-append-le, take-append-le, take_all, length-take-le, drop-drop, get_or-drop, get_or_at}
use lib.Bits.{bit_xor}
use Rattle.words.specs.Sequence.{tab, times}
use Rattle.words.specs.Block.{Block, xor_block}
use Rattle.words.proofs.Lists.{tab-ext, tab-get_or, get_or-tab}
use Rattle.words.proofs.Maps.{turn}
use Rattle.words.proofs.Times.{times-keeps, times-commute}
use Rattle.words.proofs.Blocks.{block-is, get_or-xor}
use Rattle.masks.specs.Steps.{alpha, alpha_w, beta, gamma}
use Rattle.masks.specs.Run.{next_word, grown, run, neighbours, mask_from, IsRun}
use Rattle.masks.proofs.Laws.{alpha-block, beta-block, gamma-block, alpha-beta, alpha-gamma}

-- ---- the run so far

-- an alpha step on the last sixteen words
step-on : (g : List ℕ) (n : ℕ) → drop (suc n) g ++ (next_word g n ∷ []) ≡ alpha (drop n g)
unfolding alpha next_word
step-on g n = rw (drop-drop 1 n g, add-one, get_or-drop n g 0 0, get_or-drop n g 5 0, add-zero n)

module _ (s : List ℕ) (sixteen : length s ≡ 16) where
  pub length-grown : (n : ℕ) → length (grown s n) ≡ 16 + n
  unfolding grown
  length-grown zero = sixteen
  length-grown (suc n) = length-append (grown s n) (next_word (grown s n) n ∷ []) ∙ rw (length-grown n) (omega arith)

  -- its last sixteen words are the mask after n alpha steps
  pub grown-mask : (n : ℕ) → drop n (grown s n) ≡ times alpha n s
  unfolding grown times
  grown-mask zero = refl
  grown-mask (suc n) =
      drop-append-le (suc n) (grown s n) (next_word (grown s n) n ∷ []) (omega (arith, length-grown n))
      ∙ step-on (grown s n) n
      ∙ ap alpha (grown-mask n)

  -- more words change none of those before them
  pub grown-same : (n k i : ℕ) → n ≤ k → i < 16 + n → get_or (grown s k) i 0 ≡ get_or (grown s n) i 0
  unfolding grown
  grown-same n zero i h p = let e : n ≡ 0 = omega arith in rw e
  grown-same n (suc k) i h p = elim (dec_lt n (suc k)) [
    | yes q ↦ get_or-append (grown s k) (next_word (grown s k) k ∷ []) 0 i (omega (arith, length-grown k)) ∙ grown-same n k i (omega arith) p
    | no q ↦ let e : n ≡ suc k = omega arith in rw e
  ]

  -- it is the run's first words
  pub grown-run : (n : ℕ) → grown s n ≡ tab (run s) (16 + n)
  unfolding run
  grown-run n =
      tab-get_or (grown s n) (16 + n) (length-grown n) ∙ tab-ext (λ i. get_or (grown s n) i 0) (run s) (16 + n) word
    where
      word : (i : ℕ) → i < 16 + n → get_or (grown s n) i 0 ≡ get_or (grown s i) i 0
      word i h = elim (dec_lt i n) [
        | yes p ↦ grown-same i n i (omega arith) (omega arith)
        | no q ↦ sym (grown-same n i i (omega arith) h)
      ]

  -- ---- one word of the run

  -- words n to n + 15 are the mask after n alpha steps
  pub window-at : (n i : ℕ) → i < 16 → run s (n + i) ≡ get_or (times alpha n s) i 0
  unfolding run
  window-at n i h =
      grown-same n (n + i) (n + i) (omega arith) (omega arith) ∙ sym (get_or-drop n (grown s n) i 0) ∙ ap (λ (t : List ℕ). get_or t i 0) (grown-mask n)

  run-first : (n : ℕ) → run s n ≡ get_or (times alpha n s) 0 0
  run-first n = ap (run s) (sym (add-zero n)) ∙ window-at n 0 (lit< tt)

  -- the first sixteen words are those of the block
  pub run_at : (i : ℕ) → i < 16 → run s i ≡ get_or s i 0
  unfolding times
  run_at i h = ap (run s) (sym (zero-add i)) ∙ window-at 0 i h

  -- word n + 16 is word n rotated left by 53, xor word n + 5 shifted left by 13
  pub run-new : (n : ℕ) → run s (n + 16) ≡ alpha_w (run s n) (run s (n + 5))
  unfolding run grown next_word
  run-new n =
      grown-same (suc n) (n + 16) (n + 16) (omega arith) (omega arith)
      ∙ get_or_at (grown s n) (next_word (grown s n) n) [] 0 (n + 16) (length-grown n ∙ omega arith)
      ∙ ap (alpha_w (get_or (grown s n) n 0)) (sym (grown-same n (n + 5) (n + 5) (omega arith) (omega arith)))

-- a sequence that begins with a block's words and goes on as its run does is the run, as far as it does
module _ (s : List ℕ) (sixteen : length s ≡ 16) (u : ℕ → ℕ) (first : (i : ℕ) → i < 16 → u i ≡ get_or s i 0)
    (k : ℕ) (new : (n : ℕ) → n < k → u (n + 16) ≡ alpha_w (u n) (u (n + 5))) where
  up_to : (m i : ℕ) → i < m → i < 16 + k → run s i ≡ u i
  up_to zero i p q = absurd (omega arith)
  up_to (suc m) i p q = elim (dec_lt i 16) [
    | yes r ↦ run_at s sixteen i r ∙ sym (first i r)
    | no r ↦ let n = i - 16 in
        let e : n + 16 ≡ i = omega arith in
        ap (run s) (sym e) ∙ run-new s sixteen n ∙ ap₂ alpha_w (up_to m n (omega arith) (omega arith)) (up_to m (n + 5) (omega arith) (omega arith))
        ∙ sym (new n (omega arith)) ∙ ap u e
  ]

  pub run_of : (i : ℕ) → i < 16 + k → run s i ≡ u i
  run_of i = up_to (suc i) i (omega arith)

-- ---- masks

module _ (s : List ℕ) (b : Block s) where
  mask-block : (n : ℕ) → Block (times alpha n s)
  mask-block n = times-keeps Block alpha alpha-block n s b

  pub run-lt : (n : ℕ) → run s n < 2 ^ 64
  run-lt n = rw (run-first s b.long n) ((mask-block n).words 0)

  -- words n to n + 15 are the mask after n alpha steps
  pub window : (n : ℕ) → tab (λ i. run s (n + i)) 16 ≡ times alpha n s
  window n =
      tab-ext (λ i. run s (n + i)) (λ i. get_or (times alpha n s) i 0) 16 (window-at s b.long n) ∙ sym (block-is (times alpha n s) (mask-block n))

module _ (s : List ℕ) (b : Block s) (n : ℕ) where
  run-after : (k : ℕ) → get_or (times alpha k s) 0 0 ≡ run s k
  run-after k = sym (run-first s b.long k)

  beta-last : beta (times alpha n s) ≡ times alpha n (beta s)
  beta-last = times-commute Block alpha alpha-block beta (turn alpha beta alpha-beta) n s b

  gamma-last : gamma (times alpha n s) ≡ times alpha n (gamma s)
  gamma-last = times-commute Block alpha alpha-block gamma (turn alpha gamma alpha-gamma) n s b

  -- the run of beta of a block, from neighbouring words of the block's
  pub run-beta : run (beta s) n ≡ bit_xor (run s (n + 1)) (run s n)
  unfolding beta times
  run-beta =
      let m = times alpha n s in
      run-first (beta s) (beta-block s b).long n ∙ ap (λ (t : List ℕ). get_or t 0 0) (sym beta-last)
      ∙ get_or-xor (alpha m) m 0 (lit< tt)
      ∙ ap₂ bit_xor (run-after (suc n) ∙ ap (run s) (sym (add-one n))) (run-after n)

  -- and that of gamma
  pub run-gamma : run (gamma s) n ≡ bit_xor (bit_xor (run s (n + 2)) (run s (n + 1))) (run s n)
  unfolding gamma times
  run-gamma =
      let m = times alpha n s in
      run-first (gamma s) (gamma-block s b).long n ∙ ap (λ (t : List ℕ). get_or t 0 0) (sym gamma-last)
      ∙ get_or-xor (xor_block (alpha (alpha m)) (alpha m)) m 0 (lit< tt)
      ∙ ap₂ bit_xor
      (get_or-xor (alpha (alpha m)) (alpha m) 0 (lit< tt)
      ∙ ap₂ bit_xor (run-after (suc (suc n)) ∙ ap (run s) (sym (add-two n))) (run-after (suc n) ∙ ap (run s) (sym (add-one n))))
      (run-after n)

module _ (s : List ℕ) (b : Block s) (n : ℕ) where
  -- the masks of beta and gamma after n alpha steps
  pub window-beta : tab (λ i. bit_xor (run s (n + i + 1)) (run s (n + i))) 16 ≡ beta (times alpha n s)
  window-beta =
      tab-ext (λ i. bit_xor (run s (n + i + 1)) (run s (n + i))) (λ i. run (beta s) (n + i)) 16 (λ i h. sym (run-beta s b (n + i)))
      ∙ window (beta s) (beta-block s b) n ∙ sym (beta-last s b n)

  pub window-gamma : tab (λ i. bit_xor (bit_xor (run s (n + i + 2)) (run s (n + i + 1))) (run s (n + i))) 16 ≡ gamma (times alpha n s)
  window-gamma =
      tab-ext (λ i. bit_xor (bit_xor (run s (n + i + 2)) (run s (n + i + 1))) (run s (n + i))) (λ i. run (gamma s) (n + i)) 16
      (λ i h. sym (run-gamma s b (n + i)))
      ∙ window (gamma s) (gamma-block s b) n ∙ sym (gamma-last s b n)

-- ---- masks out of a list that is a run

module _ (w : List ℕ) (is : IsRun w) where
  sixteen : length (take 16 w) ≡ 16
  sixteen = length-take-le 16 w is.long

  -- its words are those of the run of its start
  word_of : (t : ℕ) → t < length w → get_or w t 0 ≡ run (take 16 w) t
  word_of t h =
      let e : 16 + (length w - 16) ≡ length w = omega (arith, is.long) in
      ap (λ (l : List ℕ). get_or l t 0) (is.grows ∙ grown-run (take 16 w) sixteen (length w - 16))
      ∙ get_or-tab (run (take 16 w)) (16 + (length w - 16)) t (rw e h)

  module _ (b : Block (take 16 w)) (n : ℕ) where
    pub from-alpha : n + 16 ≤ length w → mask_from 0 w n ≡ times alpha n (take 16 w)
    unfolding mask_from neighbours
    from-alpha h =
        tab-ext (λ i. get_or w (n + i) 0) (λ i. run (take 16 w) (n + i)) 16 (λ i p. word_of (n + i) (omega arith)) ∙ window (take 16 w) b n

    pub from-beta : n + 17 ≤ length w → mask_from 1 w n ≡ beta (times alpha n (take 16 w))
    unfolding mask_from neighbours
    from-beta h =
        tab-ext (λ i. bit_xor (get_or w (n + i + 1) 0) (get_or w (n + i) 0)) (λ i. bit_xor (run (take 16 w) (n + i + 1)) (run (take 16 w) (n + i))) 16
        (λ i p. ap₂ bit_xor (word_of (n + i + 1) (omega arith)) (word_of (n + i) (omega arith)))
        ∙ window-beta (take 16 w) b n

    pub from-gamma : n + 18 ≤ length w → mask_from 2 w n ≡ gamma (times alpha n (take 16 w))
    unfolding mask_from neighbours
    from-gamma h =
        tab-ext (λ i. bit_xor (bit_xor (get_or w (n + i + 1 + 1) 0) (get_or w (n + i + 1) 0)) (get_or w (n + i) 0))
        (λ i. bit_xor (bit_xor (run (take 16 w) (n + i + 2)) (run (take 16 w) (n + i + 1))) (run (take 16 w) (n + i))) 16
        (λ i p.
        let e : n + i + 1 + 1 ≡ n + i + 2 = omega arith in
        let far : get_or w (n + i + 1 + 1) 0 ≡ run (take 16 w) (n + i + 2) = rw e (word_of (n + i + 2) (omega arith)) in
        ap₂ bit_xor (ap₂ bit_xor far (word_of (n + i + 1) (omega arith))) (word_of (n + i) (omega arith)))
        ∙ window-gamma (take 16 w) b n

-- a run that was grown is one, and its first sixteen words are its start
pub start-grown : (s : List ℕ) (n : ℕ) → length s ≡ 16 → take 16 (grown s n) ≡ s
unfolding grown
start-grown s zero h = take_all 16 s (omega arith)
start-grown s (suc n) h = take-append-le 16 (grown s n) (next_word (grown s n) n ∷ []) (omega (arith, length-grown s h n)) ∙ start-grown s n h

pub is-grown : (s : List ℕ) (n : ℕ) → length s ≡ 16 → IsRun (grown s n)
is-grown s n h =
    let l : length (grown s n) ≡ 16 + n = length-grown s h n in
    let e : length (grown s n) - 16 ≡ n = omega arith in
    record { long = omega arith; grows = rw (start-grown s n h, e) }
