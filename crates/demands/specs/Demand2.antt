-- Demand 2: opening hands back the message of every sealed parcel and refuses every other with 9 (document 01, "Entry points" and "Block plan"). Assumes nothing.
use Rattle.std.specs.Prelude.{◌≡◌, ◌⊎◌, List, ◌++◌, ℕ, ◌+◌, ◌-◌, ◌≤◌, length, drop, Ok, Err}
use Rattle.words.specs.Sequence.{zeros}
use Rattle.words.specs.Block.{Bytes}
use Rattle.answers.specs.Refusals.{refusal}
use Rattle.answers.specs.Answers.{clear, Answer}
use Rattle.answers.specs.declared.Ground.TheVariants.{TagDiffers}
use Rattle.checks.specs.Checks.{seal_inputs, open_inputs}

module _ (mode rounds : ℕ) (key nonce header : List ℕ) where
  -- settings and a message that seal refuses on no ground, given room
  pub record Sealable (message : List ℕ) : Type 0 where
    pub clear : seal_inputs mode rounds (length key) (length nonce) (length header) (length message) clear ≡ clear
    pub key-bytes : Bytes key
    pub nonce-bytes : Bytes nonce
    pub bytes : Bytes message

  -- settings and a parcel that open refuses on no ground but 9, given room
  pub record Openable (parcel : List ℕ) : Type 0 where
    pub clear : open_inputs mode rounds (length key) (length nonce) (length header) (length parcel) clear ≡ clear
    pub key-bytes : Bytes key
    pub nonce-bytes : Bytes nonce
    pub bytes : Bytes parcel

-- what a call of mode, rounds, key, nonce, header, input and output answers and leaves in the output
abbrev pub Call : Type 0
Call = ℕ → ℕ → List ℕ → List ℕ → List ℕ → List ℕ → List ℕ → Answer × List ℕ

-- seal writes that parcel for that message, into every output that has room for it
abbrev pub Seals : Call → ℕ → ℕ → List ℕ → List ℕ → List ℕ → List ℕ → List ℕ → Type 0
Seals sealing mode rounds key nonce header message parcel =
    (out : List ℕ) → length message + 32 ≤ length out
    → sealing mode rounds key nonce header message out ≡ (Ok (length message + 32), parcel ++ drop (length message + 32) out)

module _ (opening : Call) (mode rounds : ℕ) (key nonce header : List ℕ) where
  -- open writes that message for that parcel, into every output that has room for it
  abbrev pub Opens : List ℕ → List ℕ → Type 0
  Opens parcel message =
      (out : List ℕ) → length message ≤ length out
      → opening mode rounds key nonce header parcel out ≡ (Ok (length message), message ++ drop (length message) out)

  -- open refuses that parcel with 9, and leaves zeros where a message would have stood
  abbrev pub Refuses : List ℕ → Type 0
  Refuses parcel =
      (out : List ℕ) → length parcel - 32 ≤ length out
      → opening mode rounds key nonce header parcel out
      ≡ (Err (refusal TagDiffers 0), zeros (length parcel - 32) ++ drop (length parcel - 32) out)

module _ (sealing opening : Call) (mode rounds : ℕ) (key nonce header : List ℕ) where
  -- open of what seal writes hands back that message
  abbrev pub HandsBack : List ℕ → Type 0
  HandsBack message =
      (parcel : List ℕ) × Openable mode rounds key nonce header parcel
      × Seals sealing mode rounds key nonce header message parcel × Opens opening mode rounds key nonce header parcel message

  -- open succeeds exactly where the parcel is what seal writes for some message, the message that open writes; every other is refused with 9
  abbrev pub Exactly : List ℕ → Type 0
  Exactly parcel =
      ((message : List ℕ) × Sealable mode rounds key nonce header message
      × Seals sealing mode rounds key nonce header message parcel × Opens opening mode rounds key nonce header parcel message)
      ⊎ (((message : List ℕ) → Sealable mode rounds key nonce header message → Seals sealing mode rounds key nonce header message parcel → ⊥)
      × Refuses opening mode rounds key nonce header parcel)

-- demand 2, of a call that seals and one that opens, with every mode and round count that the checks let pass. `Demand2 seal_call open_call` is that of the calls;
-- `Demand2 (seal_from old_start_of) open_old_call` has the opening rule for the section 4 start, over that start's sealing, which is no call (document 02, card 4)
pub record Demand2 (sealing opening : Call) : Type 0 where
  pub hands-back : (mode rounds : ℕ) (key nonce header message : List ℕ) → Sealable mode rounds key nonce header message
      → HandsBack sealing opening mode rounds key nonce header message
  pub exactly : (mode rounds : ℕ) (key nonce header parcel : List ℕ) → Openable mode rounds key nonce header parcel
      → Exactly sealing opening mode rounds key nonce header parcel
