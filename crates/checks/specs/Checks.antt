-- The checks of seal, open, convert and diagnose, and of sealing and opening from a run, over settings and lengths alone (document 01, "Entry points and where each call is checked"; document 02, card 6, for a run, and card 9 for diagnose). Assumes nothing.
use Rattle.std.specs.Prelude.{Bool, false, not, cond, ◌||◌, List, [], ◌∷◌, ℕ, ◌+◌, ◌-◌, ◌/◌, eqb, ltb}
use Rattle.answers.specs.Answers.{line, room, Check, clear}
use Rattle.answers.specs.declared.Ground.TheVariants.{ModeNumber, Rounds, KeyLength, NonceLength, HeaderLength, InputLength, TagMissing}

-- mode 1 or 2
unfoldable pub is_mode : ℕ → Bool
is_mode mode = eqb mode 1 || eqb mode 2

-- one of the numbers of a list; no passage of documents 01 and 02
unfoldable pub is_one_of : List ℕ → ℕ → Bool
is_one_of [] n = false
is_one_of (k ∷ ks) n = eqb n k || is_one_of ks n

-- the round counts that is_rounds accepts, as a list (document 02, cards 2 and 9)
unfoldable pub round_counts : List ℕ
round_counts = 4 ∷ 6 ∷ 8 ∷ 12 ∷ []

-- rounds 4, 6, 8 or 12 (document 02, card 2)
unfoldable pub is_rounds : ℕ → Bool
is_rounds rounds = is_one_of round_counts rounds

-- seal, open, convert, diagnose, first to fifth: mode, rounds, and the lengths of key, nonce and header; then the checks behind them
unfoldable pub settings : ℕ → ℕ → ℕ → ℕ → ℕ → Check → Check
settings mode rounds key nonce header next =
    line (not (is_mode mode)) ModeNumber
    (line (not (is_rounds rounds)) Rounds
    (line (not (eqb key 32)) KeyLength
    (line (not (eqb nonce 16)) NonceLength
    (line (ltb 4096 header) HeaderLength next))))

-- seal, first to sixth: the settings and the message's length; then the checks behind it
unfoldable pub seal_inputs : ℕ → ℕ → ℕ → ℕ → ℕ → ℕ → Check → Check
seal_inputs mode rounds key nonce header message next = settings mode rounds key nonce header (line (ltb 65536 message) InputLength next)

-- open, convert, first to seventh, and diagnose, all ("Checks as open's up to 6"): the settings and the parcel's length; then the checks behind it
unfoldable pub open_inputs : ℕ → ℕ → ℕ → ℕ → ℕ → ℕ → Check → Check
open_inputs mode rounds key nonce header parcel next =
    settings mode rounds key nonce header (line (ltb parcel 32) TagMissing (line (ltb 65568 parcel) InputLength next))

-- seal, all: the last is room for the parcel
unfoldable pub seal_checks : ℕ → ℕ → ℕ → ℕ → ℕ → ℕ → ℕ → Check
seal_checks mode rounds key nonce header message out = seal_inputs mode rounds key nonce header message (room (message + 32) out clear)

-- open, all but the tag's, which comes last: the last of these is room for the message
unfoldable pub open_checks : ℕ → ℕ → ℕ → ℕ → ℕ → ℕ → ℕ → Check
open_checks mode rounds key nonce header parcel out = open_inputs mode rounds key nonce header parcel (room (parcel - 32) out clear)

-- convert, all but the judgement of the parcel, which comes last: checked as open, and the last of these is room for a parcel of the same length (document 02, card 5)
unfoldable pub convert_checks : ℕ → ℕ → ℕ → ℕ → ℕ → ℕ → ℕ → Check
convert_checks mode rounds key nonce header parcel out = open_inputs mode rounds key nonce header parcel (room parcel out clear)

-- the larger of two counts
unfoldable pub larger : ℕ → ℕ → ℕ
larger a b = cond (ltb a b) b a

-- the run's length in words: the whole blocks of header or message, the larger count, plus 21 (document 02, card 6)
unfoldable pub run_length : ℕ → ℕ → ℕ
run_length header message = larger (header / 128) (message / 128) + 21

-- seal from a run, all: as seal's, and with the output's length that of the buffer of words (document 02, card 6)
unfoldable pub seal_run_checks : ℕ → ℕ → ℕ → ℕ → ℕ → ℕ → ℕ → ℕ → Check
seal_run_checks mode rounds key nonce header message out words =
    seal_inputs mode rounds key nonce header message (room (message + 32) out (room (run_length header message) words clear))

-- open from a run, all but the tag's: as open's, and with the output's length that of the buffer of words
unfoldable pub open_run_checks : ℕ → ℕ → ℕ → ℕ → ℕ → ℕ → ℕ → ℕ → Check
open_run_checks mode rounds key nonce header parcel out words =
    open_inputs mode rounds key nonce header parcel (room (parcel - 32) out (room (run_length header (parcel - 32)) words clear))
