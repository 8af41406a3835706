-- The same text from an input that comes in parts: what is kept between two parts, and what is printed at the end; no passage of document 01.
-- A buffer of 4,224 bytes holds the 128 of the start and a step byte for each of 4,096 letters; a count of 4,225 stands for more. Assumes nothing.
use Rattle.std.specs.Prelude.{Bool, true, false, cond, List, [], ◌∷◌, ℕ, ◌+◌, ◌-◌, ltb, eqb, take, drop, set}
use Rattle.words.specs.Block.{block_of}
use Rattle.walking.specs.Walking.{walked}
use Rattle.maskwalk_text.specs.declared.Scan.{Scan}
use Rattle.maskwalk_text.specs.declared.Scan.TheVariants.{Reading, Ended, Wrong}
use Rattle.maskwalk_text.specs.Text.{step_of, lines, short, letter, long}

-- the bytes to come can still change the text
abbrev pub is_open : Scan → Bool
is_open (Reading n) = true
is_open (Ended n) = false
is_open Wrong = false

-- a byte kept at place n, and counted
unfoldable pub kept_at : ℕ → ℕ → List ℕ → Scan × List ℕ
kept_at n b held = (Reading (n + 1), set held n b)

-- one byte more, after n of them are held: a byte of the start as it is, a letter as its step byte; a letter that finds no place is counted once
unfoldable pub read_byte : ℕ → ℕ → List ℕ → Scan × List ℕ
read_byte n b held =
    cond (ltb n 128) (kept_at n b held)
    (cond (eqb b 10) (Ended n, held)
    (cond (eqb (step_of b) 0) (Wrong, held)
    (cond (ltb n 4224) (kept_at n (step_of b) held)
    (Reading 4225, held))))

-- one byte more; after the line feed or a wrong byte nothing changes
unfoldable pub take_byte : Scan → ℕ → List ℕ → Scan × List ℕ
take_byte (Reading n) b held = read_byte n b held
take_byte (Ended n) b held = (Ended n, held)
take_byte Wrong b held = (Wrong, held)

-- the bytes of a part, one by one
unfoldable pub fed : List ℕ → Scan → List ℕ → Scan × List ℕ
fed [] s held = (s, held)
fed (b ∷ bs) s held = let next = take_byte s b held in fed bs next.0 next.1

-- the text where n bytes are held
unfoldable pub counted : ℕ → List ℕ → List ℕ
counted n held =
    cond (ltb n 128) short
    (cond (ltb 4224 n) long
    (lines (walked (take (n - 128) (drop 128 held)) (block_of (take 128 held)))))

-- the text at the end of the input
unfoldable pub report : Scan → List ℕ → List ℕ
report (Reading n) held = counted n held
report (Ended n) held = counted n held
report Wrong held = letter
