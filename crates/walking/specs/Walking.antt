-- Walk and jump (document 01, "Entry points and where each call is checked"). Assumes nothing.
use Rattle.std.specs.Prelude.{Bool, false, cond, not, ◌&&◌, List, [], ◌∷◌, ◌++◌, ℕ, zero, suc, leb, ltb, eqb, ℤ, pos, negsuc, nat_abs, length, drop, ◌≡◌, Result, MatchResult, Ok}
use Rattle.words.specs.Sequence.{times}
use Rattle.words.specs.Block.{block_of, bytes_of}
use Rattle.masks.specs.Steps.{alpha, beta, gamma}
use Rattle.back_steps.specs.BackSteps.{back_alpha, back_beta, back_gamma}
use Rattle.answers.specs.Answers.{Check, clear, Answer, line_at, line, room, checked}
use Rattle.answers.specs.declared.Ground.TheVariants.{StartLength, NetCount, StepByte, ListLength}
use Rattle.walking.specs.declared.steps.Step.{Step}
use Rattle.walking.specs.declared.steps.Step.TheVariants.{Alpha, Beta, Gamma, BackAlpha, BackBeta, BackGamma}
use Rattle.walking.specs.declared.steps.UnknownStep.{UnknownStep}

-- one step: 1, 2, 3 for alpha, beta, gamma; 4, 5, 6 for their back steps; any other byte, which walk refuses, leaves the block
unfoldable pub step : ℕ → List ℕ → List ℕ
step zero b = b
step (suc zero) b = alpha b
step (suc (suc zero)) b = beta b
step (suc (suc (suc zero))) b = gamma b
step (suc (suc (suc (suc zero)))) b = back_alpha b
step (suc (suc (suc (suc (suc zero))))) b = back_beta b
step (suc (suc (suc (suc (suc (suc zero)))))) b = back_gamma b
step (suc (suc (suc (suc (suc (suc (suc k))))))) b = b

-- the block reached by taking each step in turn; an empty list stays at the start
unfoldable pub walked : List ℕ → List ℕ → List ℕ
walked [] b = b
walked (k ∷ ks) b = walked ks (step k b)

-- that many steps, back steps where negative
unfoldable pub net_steps : (List ℕ → List ℕ) → (List ℕ → List ℕ) → ℤ → List ℕ → List ℕ
net_steps forward back (pos n) b = times forward n b
net_steps forward back (negsuc n) b = times back (suc n) b

-- the block after i alpha, then j beta, then k gamma steps
unfoldable pub jumped : ℤ → ℤ → ℤ → List ℕ → List ℕ
jumped i j k b = net_steps gamma back_gamma k (net_steps beta back_beta j (net_steps alpha back_alpha i b))

-- a step byte from 1 to 6
unfoldable pub is_step : ℕ → Bool
is_step k = leb 1 k && leb k 6

-- the byte that stands for each step
abbrev pub step_number : Step → ℕ
step_number Alpha = 1
step_number Beta = 2
step_number Gamma = 3
step_number BackAlpha = 4
step_number BackBeta = 5
step_number BackGamma = 6

-- what a byte is read as: the step that it stands for, or itself where it is none
abbrev pub StepRead : ℕ → Result Step UnknownStep → Type 0
StepRead byte r = MatchResult r (λ s. step_number s ≡ byte) (λ e. (e.0 ≡ byte) × (is_step byte ≡ false))

-- each result that a step can have on a block is that of a function
abbrev pub DoesAs : (List ℕ → List ℕ → Type 0) → (List ℕ → List ℕ) → Type 0
DoesAs post h = (b r : List ℕ) → post b r → r ≡ h b

-- the place of the first step byte outside 1 to 6, counted from 0, or the list's length
unfoldable pub first_bad : List ℕ → ℕ
first_bad [] = 0
first_bad (k ∷ ks) = cond (is_step k) (suc (first_bad ks)) 0

-- a net count may be negative, from -65,536 to 65,536
unfoldable pub in_range : ℤ → Bool
in_range z = leb (nat_abs z) 65536

-- walk's checks, in the table's order: 10, 13, 12 at the first bad byte's place, 7
unfoldable pub walk_checks : ℕ → List ℕ → ℕ → Check
walk_checks start steps out =
    line (not (eqb start 128)) StartLength
    (line (ltb 4096 (length steps)) ListLength
    (line_at (ltb (first_bad steps) (length steps)) StepByte (first_bad steps)
    (room 128 out clear)))

-- jump's: 10, 11, 7
unfoldable pub jump_checks : ℕ → ℤ → ℤ → ℤ → ℕ → Check
jump_checks start i j k out =
    line (not (eqb start 128)) StartLength
    (line (not (in_range i && (in_range j && in_range k))) NetCount
    (room 128 out clear))

-- what walk answers and leaves in the output: where its checks are clear the block reached; output beyond it is unchanged
unfoldable pub walk_call : List ℕ → List ℕ → List ℕ → Answer × List ℕ
walk_call start steps out =
    checked (walk_checks (length start) steps (length out)) out (Ok 128, bytes_of (walked steps (block_of start)) ++ drop 128 out)

-- what jump answers and leaves in the output: where its checks are clear the block reached; output beyond it is unchanged
unfoldable pub jump_call : List ℕ → ℤ → ℤ → ℤ → List ℕ → Answer × List ℕ
jump_call start i j k out =
    checked (jump_checks (length start) i j k (length out)) out (Ok 128, bytes_of (jumped i j k (block_of start)) ++ drop 128 out)
