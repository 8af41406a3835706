-- Why a parcel won't open (document 02, card 9). Assumes nothing.
use Rattle.std.specs.Prelude.{Bool, true, false, not, cond, List, [], ◌∷◌, ◌++◌, ℕ, zero, suc, ◌+◌, ◌*◌, eqb, ltb, length, Result, Ok, Err}
use Rattle.answers.specs.Answers.{Answer, clear, judged}
use Rattle.answers.specs.declared.Refusal.{Refusal}
use Rattle.mem.specs.Mem.{start_for}
use Rattle.blockplan.specs.Parcel.{genuine}
use Rattle.checks.specs.Checks.{round_counts, open_inputs}
use Rattle.modes.specs.Modes.{mode_of}
use Rattle.diagnosing.specs.declared.Setting.{Setting}
use Rattle.diagnosing.specs.declared.Differs.{Differs}
use Rattle.diagnosing.specs.declared.Diagnosis.{Diagnosis}
use Rattle.diagnosing.specs.declared.Diagnosis.TheVariants.{AsAsked, Other, NoneOfSixteen}

-- ---- the sixteen settings

-- a start, the old one or not, a mode and a round count ("the settings asked"; "the start asked is a choice of new or old, nothing else")
unfoldable pub setting : Bool → ℕ → ℕ → Setting
setting old mode rounds = record { old = old; mode = mode; rounds = rounds }

-- one start and one mode with each of these round counts ("then rounds")
unfoldable pub with_counts : Bool → ℕ → List ℕ → List Setting
with_counts old mode [] = []
with_counts old mode (rounds ∷ counts) = setting old mode rounds ∷ with_counts old mode counts

-- the eight of one start ("then OPP before MRO, then rounds 4, 6, 8, 12")
unfoldable pub eight : Bool → List Setting
eight old = with_counts old 1 round_counts ++ with_counts old 2 round_counts

-- all, in the order in which they are tried ("new start before old")
unfoldable pub sixteen : List Setting
sixteen = eight false ++ eight true

-- setting n of a list, counted from 0; past its end one that no check lets pass
unfoldable pub nth : List Setting → ℕ → Setting
nth [] n = setting false 0 0
nth (s ∷ rest) zero = s
nth (s ∷ rest) (suc n) = nth rest n

-- ---- the reason

-- whether two truth values differ
unfoldable pub unlike : Bool → Bool → Bool
unlike true b = not b
unlike false b = b

-- "what differs (start, mode, rounds, in that order, each named when it differs)", between the setting asked and another
unfoldable pub differs : Setting → Setting → Differs
differs asked other =
    record {
      start = unlike asked.old other.old;
      mode = not (eqb asked.mode other.mode);
      rounds = not (eqb asked.rounds other.rounds);
    }

-- the place of the first setting of a list that passes a test; the list's length where none does
unfoldable pub first_of : (Setting → Bool) → List Setting → ℕ
first_of test [] = 0
first_of test (s ∷ rest) =
    let later = first_of test rest in
    cond (test s) 0 (suc later)

-- "the first other setting that opens it and the word for what differs", setting n of the sixteen; or, where that is past the last, "none of the sixteen"
unfoldable pub reason_at : Setting → ℕ → Diagnosis
reason_at asked n = cond (ltb n 16) (Other n (differs asked (nth sixteen n))) NoneOfSixteen

-- "under the settings asked, then under the others": where the one asked does not open it, the first of the sixteen that does is another
unfoldable pub reason_for : (Setting → Bool) → Setting → Diagnosis
reason_for test asked = cond (test asked) AsAsked (reason_at asked (first_of test sixteen))

-- ---- the call: only its answer, since it writes nothing

-- the start of a setting
unfoldable pub start_under : List ℕ → List ℕ → Setting → List ℕ
start_under key nonce s = start_for s.old s.rounds key nonce

-- whether a parcel opens under a setting
unfoldable pub opens_under : List ℕ → List ℕ → List ℕ → List ℕ → Setting → Bool
opens_under key nonce header parcel s = genuine (mode_of s.mode s.rounds (start_under key nonce s)) header parcel

-- "Checks as open's up to 6", then the reason
unfoldable pub diagnose_call : Bool → ℕ → ℕ → List ℕ → List ℕ → List ℕ → List ℕ → Result Diagnosis Refusal
diagnose_call old mode rounds key nonce header parcel =
    judged (open_inputs mode rounds (length key) (length nonce) (length header) (length parcel) clear)
    (Ok (reason_for (opens_under key nonce header parcel) (setting old mode rounds)))

-- ---- each case as an answer, with its number. From here on for C; no passage of documents 01 and 02

-- 1 where it is true, else 0
abbrev pub bit : Bool → ℕ
bit true = 1
bit false = 0

-- 1 where the start differs, plus 2 where the mode does, plus 4 where the rounds do
unfoldable pub differ_number : Differs → ℕ
differ_number d = bit d.start + 2 * bit d.mode + 4 * bit d.rounds

-- 0 opens as asked; 1 + n + 32 d opens under setting n, with what differs as d; 255 none of the sixteen
unfoldable pub reason_number : Diagnosis → ℕ
reason_number AsAsked = 0
reason_number (Other n d) = 1 + n + 32 * differ_number d
reason_number NoneOfSixteen = 255

-- the reason's number; else the refusal, with its number and place
unfoldable pub reason_told : Result Diagnosis Refusal → Answer
reason_told (Ok reason) = Ok (reason_number reason)
reason_told (Err found) = Err found
