-- Laws of the sum of all blocks, a padded one included, of the masks that it is taken under, and of the tag that it gives. Assumes nothing.
use mathlib.Core.Path.{◌≡◌, refl, ap, ap₂}
use mathlib.Core.Bool.{Bool, true, false, cond}
use mathlib.Core.List.{List, [], ◌∷◌, ◌++◌}
use Prim.Native.Nat.{ℕ, suc}
use lib.ListN.{length}
use Rattle.words.specs.Sequence.{fold, times, zeros}
use Rattle.words.specs.Block.{Block, block_of, xor_block}
use Rattle.masks.specs.Steps.{beta}
use Rattle.mem.specs.Mem.{mask_at, encipher, E}
use Rattle.blockplan.specs.Plan.{whole, left, has_left, block_at, xor_over, xor_if}
use Rattle.blockplan.specs.Pass.{made_at, under, stepping}
use Rattle.blockplan.proofs.Leftovers.{padded-zero}
use Rattle.blockplan.proofs.Passes.{absorbed}
use Rattle.mro.specs.Mro.{blocks, mro_sum, lengths}

-- a block more where there is one
one_more : (f : ℕ → List ℕ) (n : ℕ) (more : Bool) → xor_if more (xor_over f n) (f n) ≡ xor_over f (cond more (suc n) n)
unfolding xor_if xor_over fold
one_more f n true = refl
one_more f n false = refl

-- the padded block comes last
pub summed-all : (rounds : ℕ) (mask : ℕ → List ℕ) (s : List ℕ)
    → xor_if (has_left s) (xor_over (made_at (under false rounds mask) s) (whole s)) (encipher rounds (mask (whole s)) (block_of (left s ++ (0 ∷ []))))
    ≡ xor_over (made_at (under false rounds mask) s) (blocks s)
unfolding blocks made_at under block_at left
summed-all rounds mask s = rw (padded-zero (left s)) (one_more (made_at (under false rounds mask) s) (whole s) (has_left s))

sum_is : (rounds : ℕ) (start header message : List ℕ) → Block start
    → xor_block (xor_over (made_at (under false rounds (stepping start)) header) (blocks header)) (xor_over (made_at (under false rounds (stepping (beta start))) message) (blocks message))
    ≡ mro_sum rounds start header message
unfolding mro_sum mask_at times
sum_is rounds start header message b = ap₂ xor_block (absorbed rounds start 0 header (blocks header) b) (absorbed rounds start 1 message (blocks message) b)

-- the tag's block, from the sum over the message's blocks and the message's length
pub tag-block-is : (rounds : ℕ) (start header message sum : List ℕ) (n : ℕ) → Block start
    → sum ≡ xor_over (made_at (under false rounds (stepping (beta start))) message) (blocks message) → n ≡ length message
    → E rounds start 0 2 0 (xor_block (xor_block (xor_over (made_at (under false rounds (stepping start)) header) (blocks header)) sum) (zeros 14 ++ (length header ∷ n ∷ [])))
    ≡ E rounds start 0 2 0 (xor_block (mro_sum rounds start header message) (lengths header message))
unfolding lengths
tag-block-is rounds start header message sum n b e l =
    rw (e, l) (ap (λ (s : List ℕ). E rounds start 0 2 0 (xor_block s (lengths header message))) (sum_is rounds start header message b))
