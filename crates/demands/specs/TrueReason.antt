-- The reason that diagnose gives is true (document 02, card 9: "The reason is to be proved true"). Assumes nothing.
use Rattle.std.specs.Prelude.{◌≡◌, Bool, true, false, ◌⊎◌, ◌≢◌, List, ℕ, ◌<◌, length, Ok, Err}
use Rattle.answers.specs.Refusals.{refusal}
use Rattle.answers.specs.Answers.{clear}
use Rattle.answers.specs.declared.Ground.{Ground}
use Rattle.checks.specs.Checks.{is_mode, is_rounds, open_inputs}
use Rattle.sealing.specs.Sealing.{open_call, open_old_call}
use Rattle.diagnosing.specs.declared.Setting.{Setting}
use Rattle.diagnosing.specs.declared.Differs.{Differs}
use Rattle.diagnosing.specs.declared.Diagnosis.{Diagnosis}
use Rattle.diagnosing.specs.declared.Diagnosis.TheVariants.{AsAsked, Other, NoneOfSixteen}
use Rattle.diagnosing.specs.Diagnosing.{setting, sixteen, nth, diagnose_call}
use Rattle.demands.specs.Demand2.{Openable, Call}
use Rattle.demands.specs.Conversion.{Opened, Unopened}

-- the call that opens under a start: open, or for the old one open_old
abbrev pub opening_under : Bool → Call
opening_under true = open_old_call
opening_under false = open_call

module _ (key nonce header parcel : List ℕ) where
  -- a parcel opens under a setting: some message comes out of it by that call
  abbrev pub OpensUnder : Setting → Type 0
  OpensUnder s = Opened s.mode s.rounds key nonce header (opening_under s.old) parcel

  -- none does
  abbrev pub ShutUnder : Setting → Type 0
  ShutUnder s = Unopened s.mode s.rounds key nonce header (opening_under s.old) parcel

  -- "it opens there, and neither as asked nor under any other setting tried earlier": setting n of the sixteen, counted from 0
  pub record FirstOther (asked : Setting) (n : ℕ) : Type 0 where
    pub one-of-sixteen : n < 16
    pub opens : OpensUnder (nth sixteen n)
    pub asked-shut : ShutUnder asked
    pub earlier-shut : (m : ℕ) → m < n → ShutUnder (nth sixteen m)

-- "the word for what differs (start, mode, rounds, in that order, each named when it differs)": what is said to differ differs, and what is not agrees
pub record SaysWhatDiffers (asked other : Setting) (d : Differs) : Type 0 where
  pub start-differs : d.start ≡ true → asked.old ≢ other.old
  pub start-agrees : d.start ≡ false → asked.old ≡ other.old
  pub mode-differs : d.mode ≡ true → asked.mode ≢ other.mode
  pub mode-agrees : d.mode ≡ false → asked.mode ≡ other.mode
  pub rounds-differ : d.rounds ≡ true → asked.rounds ≢ other.rounds
  pub rounds-agree : d.rounds ≡ false → asked.rounds ≡ other.rounds

module _ (old : Bool) (mode rounds : ℕ) (key nonce header parcel : List ℕ) where
  -- the call answers that reason
  abbrev pub Says : Diagnosis → Type 0
  Says d = diagnose_call old mode rounds key nonce header parcel ≡ Ok d

  -- each reason is given exactly where it holds
  pub record Reasons : Type 0 where
    -- "opens as asked"
    pub as-asked : Says AsAsked → OpensUnder key nonce header parcel (setting old mode rounds)
    pub as-asked-there : OpensUnder key nonce header parcel (setting old mode rounds) → Says AsAsked
    -- "the first other setting that opens it and the word for what differs"
    pub other : (n : ℕ) (d : Differs) → Says (Other n d) → FirstOther key nonce header parcel (setting old mode rounds) n × SaysWhatDiffers (setting old mode rounds) (nth sixteen n) d
    pub other-there : (n : ℕ) → FirstOther key nonce header parcel (setting old mode rounds) n → (d : Differs) × Says (Other n d)
    -- "'None' holds only when all sixteen fail", and always then
    pub none : Says NoneOfSixteen → (n : ℕ) → n < 16 → ShutUnder key nonce header parcel (nth sixteen n)
    pub none-there : ((n : ℕ) → n < 16 → ShutUnder key nonce header parcel (nth sixteen n)) → Says NoneOfSixteen
    -- one of the three is given: nothing that passes the checks is refused
    pub cases : Says AsAsked ⊎ ((n : ℕ) × (d : Differs) × Says (Other n d)) ⊎ Says NoneOfSixteen

-- proved as true-reason in proofs/TrueReason
pub record TrueReason : Type 0 where
  -- the sixteen are the settings that open's checks let pass, each of them, no other, and none twice
  pub all_listed : (old : Bool) (mode rounds : ℕ) → is_mode mode ≡ true → is_rounds rounds ≡ true → (n : ℕ) × (n < 16) × (nth sixteen n ≡ setting old mode rounds)
  pub listed-pass : (n : ℕ) → n < 16 → (is_mode (nth sixteen n).mode ≡ true) × (is_rounds (nth sixteen n).rounds ≡ true)
  pub listed-once : (m n : ℕ) → m < 16 → n < 16 → nth sixteen m ≡ nth sixteen n → m ≡ n
  -- "Checks as open's up to 6": what they find is refused; and what is refused, the call that opens under the start asked refuses on the same ground, at the same place, whatever its output
  pub refused : (old : Bool) (mode rounds : ℕ) (key nonce header parcel : List ℕ) (why : Ground) (place : ℕ)
      → open_inputs mode rounds (length key) (length nonce) (length header) (length parcel) clear ≡ Err (refusal why place)
      → diagnose_call old mode rounds key nonce header parcel ≡ Err (refusal why place)
  pub refused-by-open : (old : Bool) (mode rounds : ℕ) (key nonce header parcel : List ℕ) (why : Ground) (place : ℕ)
      → diagnose_call old mode rounds key nonce header parcel ≡ Err (refusal why place)
      → (out : List ℕ) → opening_under old mode rounds key nonce header parcel out ≡ (Err (refusal why place), out)
  -- of every parcel that open refuses on no ground but 9, given room, the reason
  pub reasons : (old : Bool) (mode rounds : ℕ) (key nonce header parcel : List ℕ) → Openable mode rounds key nonce header parcel
      → Reasons old mode rounds key nonce header parcel
