-- What C reads off the one number that each exported call returns (document 01, "Entry points": a refusal's number and its place). Assumes nothing.
use Rattle.std.specs.Prelude.{◌≡◌, Bool, List, ℕ, ◌/◌, ◌%◌, ◌^◌, ◌<◌, ℤ, Result, Ok}
use Rattle.words.specs.Block.{Bytes}
use Rattle.answers.specs.declared.Refusal.{Refusal}
use Rattle.answers.specs.Answers.{number_of, value_of, code_of, judged, shown, Answer}
use Rattle.sealing.specs.Sealing.{seal_call, open_call, open_old_call}
use Rattle.converting.specs.Converting.{convert_call}
use Rattle.diagnosing.specs.Diagnosing.{diagnose_call, reason_told}
use Rattle.run_sealing.specs.RunSealing.{seal_run_call, open_run_call}
use Rattle.walking.specs.Walking.{walk_call, jump_call}
use Rattle.sales.specs.declared.Sale.{Sale}
use Rattle.cells.specs.Cells.{kind_of, cell_named}
use Rattle.store.specs.Store.{cancel_checks, format_call, take_call, cancel_call, total_call, read_offset, look_up_call, kind_told, looked_up}
use Rattle.store.specs.declared.LookUp.{LookUp}

-- divided by 2^32 it is the refusal's number, 0 on success; the remainder is the value, or the place of the refusal
abbrev pub Decodes : Answer → Type 0
Decodes a = (code_of a / 2 ^ 32 ≡ number_of a) × (code_of a % 2 ^ 32 ≡ value_of a)

-- for each exported call and all its arguments; proved as for-c in proofs/ForC
pub record ForC : Type 0 where
  -- C can tell every two answers apart: the same number is returned only for the same answer, success with that value, or refusal on that ground at that place.
  -- Every call below keeps the bound, since its value or place is a remainder by 2^32
  pub told-apart : (a b : Answer) → value_of a < 2 ^ 32 → value_of b < 2 ^ 32 → code_of a ≡ code_of b → a ≡ b
  pub of-seal : (mode rounds : ℕ) (key nonce header message out : List ℕ) → Decodes (seal_call mode rounds key nonce header message out).0
  pub of-open : (mode rounds : ℕ) (key nonce header parcel out : List ℕ) → Decodes (open_call mode rounds key nonce header parcel out).0
  pub of-open-old : (mode rounds : ℕ) (key nonce header parcel out : List ℕ) → Decodes (open_old_call mode rounds key nonce header parcel out).0
  pub of-convert : (mode rounds : ℕ) (key nonce header parcel out : List ℕ) → Decodes (convert_call mode rounds key nonce header parcel out).0
  pub of-diagnose : (old : Bool) (mode rounds : ℕ) (key nonce header parcel : List ℕ) → Decodes (reason_told (diagnose_call old mode rounds key nonce header parcel))
  pub of-seal-run : (mode rounds : ℕ) (key nonce header message out words : List ℕ) → Decodes (seal_run_call mode rounds key nonce header message out words).0
  pub of-open-run : (mode rounds : ℕ) (key nonce header parcel out words : List ℕ) → Decodes (open_run_call mode rounds key nonce header parcel out words).0
  pub of-walk : (start steps out : List ℕ) → Decodes (walk_call start steps out).0
  pub of-jump : (start : List ℕ) (alpha beta gamma : ℤ) (out : List ℕ) → Decodes (jump_call start alpha beta gamma out).0
  pub of_format : (s : List ℕ) → Decodes (format_call s).0
  pub of-take : (key : List ℕ) (x : Sale) (s : List ℕ) → Decodes (take_call key x s).0
  pub of-cancel : (key : List ℕ) (machine sale : ℕ) (s : List ℕ) → Bytes s → Decodes (cancel_call key machine sale s).0
  pub of-total : (key s : List ℕ) → Decodes (shown (total_call key s))
  pub of-read : (machine sale : ℕ) (s : List ℕ) → Decodes (read_offset machine sale s)
  pub of-look-up : (key : List ℕ) (machine sale : ℕ) (s : List ℕ) → Decodes (kind_told (look_up_call key machine sale s))
  -- C can tell every two diagnoses apart, of whatever arguments: the same number is returned only for the same reason, the same setting named and the same said to differ, or the same refusal
  pub diagnoses-apart : (old old' : Bool) (mode rounds mode' rounds' : ℕ) (key nonce header parcel key' nonce' header' parcel' : List ℕ)
      → code_of (reason_told (diagnose_call old mode rounds key nonce header parcel)) ≡ code_of (reason_told (diagnose_call old' mode' rounds' key' nonce' header' parcel'))
      → diagnose_call old mode rounds key nonce header parcel ≡ diagnose_call old' mode' rounds' key' nonce' header' parcel'
  -- where a look-up is not refused its value is the kind byte of the sale's cell
  pub look-up-kind : (key : List ℕ) (machine sale : ℕ) (s : List ℕ) → kind_told (look_up_call key machine sale s) ≡ judged (cancel_checks key machine sale s) (Ok (kind_of s (cell_named machine sale s)))
  -- C can tell every two look-ups apart by the number and the two variables, whatever these held before each: so "a mark for no price" is "told apart from price 0" and from every other
  pub look-ups-apart : (a b : Result LookUp Refusal) (amount price amount' price' : ℕ) → value_of (kind_told a) < 2 ^ 32 → value_of (kind_told b) < 2 ^ 32 → looked_up a amount price ≡ looked_up b amount' price' → a ≡ b
