-- The pass over the message, for sealing and opening at once: what the functions inside this crate promise each other; no passage of document 01. Assumes nothing.
use Rattle.std.specs.Prelude.{◌≡◌, Bool, cond, List, ◌++◌, ℕ, length, drop}
use Rattle.mem.specs.Mem.{mask_at}
use Rattle.blockplan.specs.Plan.{whole, has_left, ciphered}
use Rattle.blockplan.specs.Pass.{under, planned}
use Rattle.opp.specs.Opp.{opp_stream, opp_check}

-- what the pass writes: the ciphertext, or the message where a parcel is opened
unfoldable pub written : Bool → ℕ → List ℕ → List ℕ → List ℕ
written opening rounds start s = ciphered (under opening rounds (planned start 0 1)) (opp_stream rounds start) s

-- the message
unfoldable pub plain : Bool → ℕ → List ℕ → List ℕ → List ℕ
plain opening rounds start s = cond opening (written opening rounds start s) s

-- all of s is passed: its bytes are in front of what the output had, the check is that of the message, and the last mask is (m, 0, 1), or (m, 1, 1) where there is a leftover
pub record AllPassed (opening : Bool) (rounds : ℕ) (start s old new check mask : List ℕ) : Type 0 where
  pub all-written : new ≡ written opening rounds start s ++ drop (length s) old
  pub all-checked : check ≡ opp_check (plain opening rounds start s)
  pub last-mask : mask ≡ mask_at start (whole s) (cond (has_left s) 1 0) 1
