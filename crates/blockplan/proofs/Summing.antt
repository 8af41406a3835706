-- Where a loop stands that takes whole blocks off the front and sums what each becomes: the start, one more turn and the end. Assumes nothing.
use mathlib.Core.Path.{◌≡◌, refl}
use mathlib.Core.Bool.{Bool, cond}
use mathlib.Core.List.{List}
use Prim.Native.Nat.{ℕ, ◌+◌, ◌-◌, ◌*◌, ◌≤◌, ◌<◌}
use native.Mathlib.Nat.{zero-add}
use native.Mathlib.Omega.{arith}
use lib.ListN.{length, take, drop, length-drop}
use Rattle.words.specs.Sequence.{times, fold}
use Rattle.words.specs.Block.{block_of, xor_block, zero_block}
use Rattle.words.proofs.Lists.{tail_part, next_part}
use Rattle.masks.specs.Steps.{alpha}
use Rattle.mem.specs.Mem.{encipher, decipher}
use Rattle.blockplan.specs.Plan.{whole, left, block_at, xor_over}
use Rattle.blockplan.specs.Pass.{made_at, under, stepping}
use Rattle.blockplan.proofs.Leftovers.{whole_is}
use Rattle.blockplan.proofs.Sums.{summed}
use Rattle.blockplan.proofs.Passes.{stepping-on}

-- so many blocks are in, and what is left is the part from the next one on
pub record Summing (opening : Bool) (rounds : ℕ) (first s rest sum mask : List ℕ) : Type 0 where
  pub count : ℕ
  pub lengths : 128 * count + length rest ≡ length s
  pub left : rest ≡ drop (128 * count) s
  pub sum_is : sum ≡ xor_over (made_at (under opening rounds (stepping first)) s) count
  pub mask_is : mask ≡ stepping first count

module _ (opening : Bool) (rounds : ℕ) (first s : List ℕ) where
  pub summing-none : (sum : List ℕ) → sum ≡ zero_block → Summing opening rounds first s s sum first
  unfolding xor_over fold stepping times
  summing-none sum e = record { count = 0; lengths = zero-add (length s); left = refl; sum_is = e; mask_is = refl }

  module _ (rest sum mask : List ℕ) (here : Summing opening rounds first s rest sum mask) where
    pub summing-more : (more next : List ℕ) → 128 ≤ length rest
        → more ≡ xor_block sum (cond opening (decipher rounds mask (block_of rest)) (encipher rounds mask (block_of rest))) → next ≡ alpha mask
        → Summing opening rounds first s (take (length rest - 128) (drop 128 rest)) more next
    unfolding made_at under block_at
    summing-more more next h e q = record {
      count = here.count + 1;
      lengths = simp (tail_part, length-drop) (omega (arith, here.lengths));
      left = next_part 128 here.count rest s here.left;
      sum_is = summed _ here.count sum more here.sum_is (rw (here.mask_is, here.left) at e);
      mask_is = stepping-on first mask next here.count here.mask_is q;
    }

    all_in : length rest < 128 → here.count ≡ whole s
    all_in h = whole_is s here.count (length rest) here.lengths h

    pub summing-done : length rest < 128 → (sum ≡ xor_over (made_at (under opening rounds (stepping first)) s) (whole s)) × (mask ≡ stepping first (whole s))
    summing-done h = (rw (all_in h) at here.sum_is, rw (all_in h) at here.mask_is)

    -- what is handed on at the end is the leftover
    pub summing-left : length rest < 128 → rest ≡ left s
    unfolding left
    summing-left h = rw (all_in h) at here.left
