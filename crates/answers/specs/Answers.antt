-- What a public call answers, and what its checks find (document 01, "Entry points and where each call is checked"). Assumes nothing.
use Rattle.std.specs.Prelude.{Bool, true, false, ℕ, ◌+◌, ◌*◌, ◌^◌, ltb, Result, Ok, Err, ⊤}
use Rattle.answers.specs.declared.Ground.{Ground}
use Rattle.answers.specs.declared.Ground.TheVariants.{ModeNumber, Rounds, KeyLength, NonceLength, HeaderLength, InputLength, OutputLength, TagMissing, TagDiffers, StartLength, NetCount, StepByte, ListLength, StoreFull, SaleNumbers, DoneAlready, StoreLength, StoreIndex, StoreKind}
use Rattle.answers.specs.declared.Refusal.{Refusal}
use Rattle.answers.specs.Refusals.{refusal}

-- what a call's checks find: nothing, or a refusal
abbrev pub Check : Type 0
Check = Result ⊤ Refusal

-- checks that find nothing
abbrev pub clear : Check
clear = Ok tt

-- what a call answers: a value, or a refusal
abbrev pub Answer : Type 0
Answer = Result ℕ Refusal

-- ---- answers

-- the number of each ground in the table; 14 is withdrawn (document 02, card 7) and is no ground's
abbrev pub ground_number : Ground → ℕ
ground_number ModeNumber = 1
ground_number Rounds = 2
ground_number KeyLength = 3
ground_number NonceLength = 4
ground_number HeaderLength = 5
ground_number InputLength = 6
ground_number OutputLength = 7
ground_number TagMissing = 8
ground_number TagDiffers = 9
ground_number StartLength = 10
ground_number NetCount = 11
ground_number StepByte = 12
ground_number ListLength = 13
ground_number StoreFull = 15
ground_number SaleNumbers = 16
ground_number DoneAlready = 17
ground_number StoreLength = 18
ground_number StoreIndex = 19
ground_number StoreKind = 20

-- a refusal returns its number; 0 is success
abbrev pub number_of : Answer → ℕ
number_of (Ok value) = 0
number_of (Err found) = ground_number found.why

-- success returns a value: the bytes written, or what the call says; a refusal a place
abbrev pub value_of : Answer → ℕ
value_of (Ok value) = value
value_of (Err found) = found.place

-- an answer as one number, for C: the refusal's number times 2^32, plus the place; on success the value
unfoldable pub code_of : Answer → ℕ
code_of a = number_of a * 2 ^ 32 + value_of a

-- a call's answer in that form, beside what it writes
unfoldable pub coded : {A : Type 0} → Answer × A → ℕ × A
coded r = (code_of r.0, r.1)

-- total's answer for C: 0 on success, since the total itself may pass 2^32
abbrev pub shown : Answer → Answer
shown (Ok total) = Ok 0
shown (Err found) = Err found

-- what C's variable for the total holds afterwards: the total; where refused what it held before
abbrev pub total_in : Answer → ℕ → ℕ
total_in (Ok total) before = total
total_in (Err found) before = before

-- total's one number, and its variable
unfoldable pub totalled : Answer → ℕ → ℕ × ℕ
totalled a before = (code_of (shown a), total_in a before)

-- ---- checks

-- a line of the table: where its ground holds, that is what the checks find, at that place; else the next line decides
unfoldable pub line_at : Bool → Ground → ℕ → Check → Check
line_at true why place next = Err (refusal why place)
line_at false why place next = next

-- a line whose place is 0
unfoldable pub line : Bool → Ground → Check → Check
line test why next = line_at test why 0 next

-- the line of many calls: the output shorter than success writes (of the run's calls, likewise the words)
unfoldable pub room : ℕ → ℕ → Check → Check
room needed lent next = line (ltb lent needed) OutputLength next

-- a call: what its checks find it answers, and changes nothing of what it may write; where they are clear it answers and writes as given
unfoldable pub checked : {A : Type 0} → Check → A → Answer × A → Answer × A
checked (Err found) before result = (Err found, before)
checked (Ok none) before result = result

-- a call that writes nothing: what its checks find, or the result given
unfoldable pub judged : {A : Type 0} → Check → Result A Refusal → Result A Refusal
judged (Err found) result = Err found
judged (Ok none) result = result
