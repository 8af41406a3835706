-- All masks come from one run of words, and sealing and opening from the run are sealing and opening (document 02, card 6). Assumes nothing.
use Rattle.std.specs.Prelude.{◌≡◌, List, ◌++◌, ℕ, suc, ◌+◌, ◌-◌, ◌≤◌, ◌<◌, length, get_or, drop, Ok, Err}
use Rattle.std.specs.Int.Bits.{bit_xor}
use Rattle.words.specs.Sequence.{tab, times}
use Rattle.words.specs.Word.{rot_l, shl}
use Rattle.words.specs.Block.{Block, Bytes, xor_block}
use Rattle.answers.specs.Refusals.{refusal}
use Rattle.answers.specs.Answers.{Check, clear, Answer}
use Rattle.answers.specs.declared.Ground.{Ground}
use Rattle.answers.specs.declared.Ground.TheVariants.{OutputLength, TagDiffers}
use Rattle.masks.specs.Steps.{alpha, beta, gamma}
use Rattle.masks.specs.Run.{run, grown}
use Rattle.mem.specs.Mem.{start_of, mask_at}
use Rattle.checks.specs.Checks.{run_length, seal_checks, open_checks}
use Rattle.sealing.specs.Sealing.{seal_call, open_call}
use Rattle.run_sealing.specs.RunSealing.{seal_run_call, open_run_call}

-- the run of a block: run s n is its word n
pub record RunOf (s : List ℕ) : Type 0 where
  -- its first sixteen words are the block's
  pub first : (i : ℕ) → i < 16 → run s i ≡ get_or s i 0
  -- word n + 16 is word n rotated left by 53, xor word n + 5 shifted left by 13
  pub next : (n : ℕ) → run s (n + 16) ≡ bit_xor (rot_l 53 (run s n)) (shl 13 (run s (n + 5)))
  -- what is grown is that run, so far
  pub so_far : (n : ℕ) → grown s n ≡ tab (run s) (16 + n)
  -- words n to n + 15 are the mask after n alpha steps
  pub alphas : (n : ℕ) → tab (λ i. run s (n + i)) 16 ≡ times alpha n s
  -- and neighbouring words, exclusive or, give the masks of beta and gamma
  pub betas : (n : ℕ) → tab (λ i. bit_xor (run s (n + i + 1)) (run s (n + i))) 16 ≡ beta (times alpha n s)
  pub gammas : (n : ℕ) → tab (λ i. bit_xor (bit_xor (run s (n + i + 2)) (run s (n + i + 1))) (run s (n + i))) 16 ≡ gamma (times alpha n s)
  -- each further beta step on any mask is the mask an alpha step on, xor the mask: so the plan's (m, 1, 1) to (m, 3, 1) and (0, 2, 0) come from five words more
  pub further : (n j k : ℕ) → xor_block (mask_at s (n + 1) j k) (mask_at s n j k) ≡ mask_at s n (suc j) k

-- of every block
abbrev pub OneRun : Type 0
OneRun = (s : List ℕ) → Block s → RunOf s

-- the answer and the output of a call that writes words too
abbrev pub without_words : Answer × (List ℕ × List ℕ) → Answer × List ℕ
without_words r = (r.0, r.1.0)

-- the input is a message where it is sealed, and a parcel where it is opened
module _ (mode rounds : ℕ) (key nonce header input out words : List ℕ) where
  -- what sealing and opening from the run answer and leave in the output and in the words
  abbrev pub sealed_from_run : Answer × (List ℕ × List ℕ)
  sealed_from_run = seal_run_call mode rounds key nonce header input out words

  abbrev pub opened_from_run : Answer × (List ℕ × List ℕ)
  opened_from_run = open_run_call mode rounds key nonce header input out words

  -- what the checks of seal and of open find
  abbrev pub seal_finds : Check
  seal_finds = seal_checks mode rounds (length key) (length nonce) (length header) (length input) (length out)

  abbrev pub open_finds : Check
  open_finds = open_checks mode rounds (length key) (length nonce) (length header) (length input) (length out)

  -- how many words the run has
  abbrev pub seal_words : ℕ
  seal_words = run_length (length header) (length input)

  abbrev pub open_words : ℕ
  open_words = run_length (length header) (length input - 32)

  -- the first n words are the run of the start, and the rest is as it was
  abbrev pub HoldsRun : ℕ → Answer × (List ℕ × List ℕ) → Type 0
  HoldsRun n r = r.1.1 ≡ tab (run (start_of rounds key nonce)) n ++ drop n words

  -- the calls from a run beside seal and open
  pub record Alike : Type 0 where
    -- with words enough, the same answer and the same output, refusals too
    pub seals : seal_words ≤ length words → without_words sealed_from_run ≡ seal_call mode rounds key nonce header input out
    pub opens : open_words ≤ length words → without_words opened_from_run ≡ open_call mode rounds key nonce header input out
    -- what seal and open refuse by their checks is refused as they do, however many words there are, and nothing changes
    pub seals-refused : (why : Ground) (place : ℕ) → seal_finds ≡ Err (refusal why place) → sealed_from_run ≡ (Err (refusal why place), (out, words))
    pub opens-refused : (why : Ground) (place : ℕ) → open_finds ≡ Err (refusal why place) → opened_from_run ≡ (Err (refusal why place), (out, words))
    -- words too few: 7, where the checks of seal or open find nothing, and nothing changes; so it comes before open's 9
    pub seals-short : seal_finds ≡ clear → length words < seal_words → sealed_from_run ≡ (Err (refusal OutputLength 0), (out, words))
    pub opens-short : open_finds ≡ clear → length words < open_words → opened_from_run ≡ (Err (refusal OutputLength 0), (out, words))
    -- what stood in the words does not matter, only how many there are
    pub seals-whatever : (other : List ℕ) → length words ≡ length other → without_words sealed_from_run ≡ without_words (seal_run_call mode rounds key nonce header input out other)
    pub opens-whatever : (other : List ℕ) → length words ≡ length other → without_words opened_from_run ≡ without_words (open_run_call mode rounds key nonce header input out other)
    -- after success, and after 9, the words hold the run
    pub seals-words : Bytes key → Bytes nonce → (n : ℕ) → sealed_from_run.0 ≡ Ok n → HoldsRun seal_words sealed_from_run
    pub opens-words : Bytes key → Bytes nonce → (n : ℕ) → opened_from_run.0 ≡ Ok n → HoldsRun open_words opened_from_run
    pub nine_words : Bytes key → Bytes nonce → (place : ℕ) → opened_from_run.0 ≡ Err (refusal TagDiffers place) → HoldsRun open_words opened_from_run
    -- any other refusal changes nothing
    pub seals-unchanged : (why : Ground) (place : ℕ) → sealed_from_run.0 ≡ Err (refusal why place) → sealed_from_run.1 ≡ (out, words)
    pub opens-unchanged : (why : Ground) (place : ℕ) → (why ≡ TagDiffers → ⊥) → opened_from_run.0 ≡ Err (refusal why place) → opened_from_run.1 ≡ (out, words)

-- for every argument
abbrev pub SameEngine : Type 0
SameEngine = (mode rounds : ℕ) (key nonce header input out words : List ℕ) → Alike mode rounds key nonce header input out words
