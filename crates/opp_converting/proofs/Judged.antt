-- The check over a parcel's message, where the whole blocks were summed and none was written. Assumes nothing.
use mathlib.Core.Path.{◌≡◌, refl}
use mathlib.Core.Bool.{true, cond}
use mathlib.Core.List.{List, [], ◌++◌}
use Prim.Native.Nat.{ℕ, ◌*◌}
use lib.ListN.{length, drop}
use Rattle.words.specs.Sequence.{cat}
use Rattle.words.specs.Block.{Block, Bytes, bytes_of, xor_block, xor_bytes, zero_block}
use Rattle.masks.specs.Steps.{beta, gamma}
use Rattle.mem.specs.Mem.{mask_at, encipher, D}
use Rattle.blockplan.specs.Plan.{whole, left, has_left, xor_over}
use Rattle.blockplan.specs.Pass.{made_at, bytes_at, plain_at, under, planned, stepping, Passed}
use Rattle.opp.specs.Opp.{padded, open_at, opp_check, opp_plain}
use Rattle.opp.specs.Pass.{written, plain, AllPassed}
use Rattle.opp.proofs.Passes.{blocks-planned, all_whole, all_left}

module _ (rounds : ℕ) (start s : List ℕ) (l : Block start) (h : Bytes s) where
  -- what a pass that opens would have written to an empty output
  abbrev new : List ℕ
  new = cat (bytes_at (under true rounds (stepping (gamma start))) s) (whole s) ++ drop (128 * whole s) []

  module _ (sum next : List ℕ) (e : sum ≡ xor_over (made_at (under true rounds (stepping (gamma start))) s) (whole s)) (n : next ≡ stepping (gamma start) (whole s)) where
    passed : Passed true rounds (planned start 0 1) s (whole s) [] new sum next
    unfolding plain_at
    passed = blocks-planned rounds start s l true (record { written = refl; summed = e; reached = n })

    -- what the pass ends with
    abbrev pub Ends : List ℕ → List ℕ → Type 0
    Ends check mask = (check ≡ opp_check (opp_plain rounds start s)) × (mask ≡ mask_at start (whole s) (cond (has_left s) 1 0) 1)

    ends : {out check mask : List ℕ} → AllPassed true rounds start s [] out check mask → Ends check mask
    unfolding written plain opp_plain open_at under planned D
    ends p = (p.all-checked, p.last-mask)

    pub ends-whole : 128 * whole s ≡ length s → Ends sum next
    ends-whole q = ends (all_whole rounds start s l h true [] new sum next passed q)

    pub ends-left : (check mask : List ℕ) → (128 * whole s ≡ length s → ⊥)
        → check ≡ xor_block sum (padded (xor_bytes (left s) (bytes_of (encipher rounds (beta next) zero_block)))) → mask ≡ beta next → Ends check mask
    ends-left check mask q c m = ends (all_left rounds start s l h true [] new sum next passed _ check mask q refl c m)
