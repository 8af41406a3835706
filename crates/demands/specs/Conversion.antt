-- What convert makes of parcels of the old start, and of every other (document 02, card 5). Assumes nothing.
use Rattle.std.specs.Prelude.{◌≡◌, ◌⊎◌, List, ◌++◌, ℕ, ◌≤◌, length, drop, Ok, Err}
use Rattle.answers.specs.Refusals.{refusal}
use Rattle.answers.specs.declared.Ground.{Ground}
use Rattle.answers.specs.declared.Ground.TheVariants.{TagDiffers, DoneAlready}
use Rattle.mem.specs.Mem.{old_start_of}
use Rattle.sealing.specs.Sealing.{seal_from, seal_call, open_call, open_old_call}
use Rattle.converting.specs.Converting.{convert_call}
use Rattle.demands.specs.Demand2.{Sealable, Openable, Call, Seals, Opens}

module _ (mode rounds : ℕ) (key nonce header : List ℕ) where
  -- into every output, one without room for it too, convert answers and writes for that parcel what seal does for that message
  abbrev pub SealsAgain : List ℕ → List ℕ → Type 0
  SealsAgain parcel message =
      (out : List ℕ) → convert_call mode rounds key nonce header parcel out ≡ seal_call mode rounds key nonce header message out

  -- convert writes a parcel of the same length for that parcel, into every output that has room for it, and open hands back that message of it
  abbrev pub OpensConverted : List ℕ → List ℕ → Type 0
  OpensConverted parcel message =
      (new : List ℕ) × (length new ≡ length parcel)
      × ((out : List ℕ) → length parcel ≤ length out → convert_call mode rounds key nonce header parcel out ≡ (Ok (length parcel), new ++ drop (length parcel) out))
      × Opens open_call mode rounds key nonce header new message

  -- some message comes out of that parcel by that call
  abbrev pub Opened : Call → List ℕ → Type 0
  Opened opening parcel = (message : List ℕ) × Opens opening mode rounds key nonce header parcel message

  -- none does
  abbrev pub Unopened : Call → List ℕ → Type 0
  Unopened opening parcel = Opened opening parcel → ⊥

  -- convert refuses that parcel on that ground and changes no byte of an output that has room for a parcel
  abbrev pub RefusesUnchanged : Ground → List ℕ → Type 0
  RefusesUnchanged why parcel = (out : List ℕ) → length parcel ≤ length out → convert_call mode rounds key nonce header parcel out ≡ (Err (refusal why 0), out)

  -- what convert does with a parcel, by how it opens
  pub record OneOfThree (parcel : List ℕ) : Type 0 where
    -- one that opens under the old start is converted, whether it opens under the new one or not
    pub converts : (message : List ℕ) → Opens open_old_call mode rounds key nonce header parcel message → SealsAgain parcel message
    -- one that opens under the new start and not under the old is done already
    pub done-already : Unopened open_old_call parcel → Opened open_call parcel → RefusesUnchanged DoneAlready parcel
    -- every other gives 9
    pub neither : Unopened open_old_call parcel → Unopened open_call parcel → RefusesUnchanged TagDiffers parcel
    -- one of the three holds of every parcel, and no two of them: unopened is the contrary of opened
    pub cases : Opened open_old_call parcel ⊎ (Unopened open_old_call parcel × Opened open_call parcel) ⊎ (Unopened open_old_call parcel × Unopened open_call parcel)

-- message and length survive exactly; of every parcel that open refuses on no ground but 9, given room for it, it is said what convert does
pub record Conversion : Type 0 where
  -- what the old start's sealing makes of a message: convert does what seal does for the message, and so open hands it back
  pub converts-sealed : (mode rounds : ℕ) (key nonce header message parcel : List ℕ) → Sealable mode rounds key nonce header message
      → Seals (seal_from old_start_of) mode rounds key nonce header message parcel
      → SealsAgain mode rounds key nonce header parcel message × OpensConverted mode rounds key nonce header parcel message
  -- every parcel that passes the checks before, whoever made it, is converted, done already, or gives 9
  pub one_of_three : (mode rounds : ℕ) (key nonce header parcel : List ℕ) → Openable mode rounds key nonce header parcel
      → OneOfThree mode rounds key nonce header parcel
  -- a refusal, on whichever ground and for whatever arguments, changes no output
  pub unchanged : (mode rounds : ℕ) (key nonce header parcel out : List ℕ) (why : Ground) (place : ℕ)
      → (convert_call mode rounds key nonce header parcel out).0 ≡ Err (refusal why place) → (convert_call mode rounds key nonce header parcel out).1 ≡ out
