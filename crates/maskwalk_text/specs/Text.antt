-- What the program maskwalk prints for its whole input (document 01, "Bench sheet", last paragraph). Assumes nothing.
use Rattle.std.specs.Prelude.{Bool, true, cond, not, ◌&&◌, List, [], ◌∷◌, ◌++◌, map, ℕ, zero, suc, ◌+◌, ◌/◌, ◌%◌, ltb, eqb, length, get_or, take, drop}
use Rattle.words.specs.Sequence.{cat}
use Rattle.words.specs.Block.{block_of}
use Rattle.walking.specs.Walking.{walked}

-- bytes up to a line feed or the end
unfoldable pub up_to_feed : List ℕ → List ℕ
up_to_feed [] = []
up_to_feed (b ∷ bs) = cond (eqb b 10) [] (b ∷ up_to_feed bs)

-- 128 raw bytes
unfoldable pub start : List ℕ → List ℕ
start input = take 128 input

-- then letters up to a line feed or the end
unfoldable pub letters : List ℕ → List ℕ
letters input = up_to_feed (drop 128 input)

-- a, b, g (forward) and A, B, G (back), as the step bytes of walk; 0 for any byte but those six letters
unfoldable pub step_of : ℕ → ℕ
step_of l =
    cond (eqb l 97) 1
    (cond (eqb l 98) 2
    (cond (eqb l 103) 3
    (cond (eqb l 65) 4
    (cond (eqb l 66) 5
    (cond (eqb l 71) 6
    0)))))

-- no byte but those six letters
unfoldable pub all_letters : List ℕ → Bool
all_letters [] = true
all_letters (l ∷ ls) = not (eqb (step_of l) 0) && all_letters ls

-- a digit below sixteen: 0 to 9, then a to f
unfoldable pub digit : ℕ → ℕ
digit d = cond (ltb d 10) (48 + d) (87 + d)

-- the k low digits of n in a base, the highest first
unfoldable pub digits : ℕ → ℕ → ℕ → List ℕ
digits base zero n = []
digits base (suc k) n = digits base k (n / base) ++ (digit (n % base) ∷ [])

-- the word number in two decimal digits, a space, sixteen lower-case hexadecimal digits; the line ends in a line feed
unfoldable pub line : ℕ → ℕ → List ℕ
line i word = digits 10 2 i ++ (32 ∷ digits 16 16 word) ++ (10 ∷ [])

-- the block: sixteen lines
unfoldable pub lines : List ℕ → List ℕ
lines b = cat (λ i. line i (get_or b i 0)) 16

-- "short", and a line feed
unfoldable pub short : List ℕ
short = 115 ∷ 104 ∷ 111 ∷ 114 ∷ 116 ∷ 10 ∷ []

-- "letter", and a line feed
unfoldable pub letter : List ℕ
letter = 108 ∷ 101 ∷ 116 ∷ 116 ∷ 101 ∷ 114 ∷ 10 ∷ []

-- "long", and a line feed
unfoldable pub long : List ℕ
long = 108 ∷ 111 ∷ 110 ∷ 103 ∷ 10 ∷ []

-- fewer than 128 bytes, any byte but those six letters before the line feed, over 4,096 letters: the first of these in that order wins; else the block
unfoldable pub text_of : List ℕ → List ℕ
text_of input =
    cond (ltb (length input) 128) short
    (cond (not (all_letters (letters input))) letter
    (cond (ltb 4096 (length (letters input))) long
    (lines (walked (map step_of (letters input)) (block_of (start input))))))

-- a text written to the front of the output, and its length; output beyond it is unchanged
unfoldable pub written : List ℕ → List ℕ → ℕ × List ℕ
written text out = (length text, text ++ drop (length text) out)
