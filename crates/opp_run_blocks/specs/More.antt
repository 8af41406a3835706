-- Blocks passed behind others: what functions promise each other; no passage of document 01. Assumes nothing.
use Rattle.std.specs.Prelude.{◌≡◌, Bool, List, ◌++◌, ℕ, ◌*◌, drop}
use Rattle.words.specs.Sequence.{cat, fold}
use Rattle.words.specs.Block.{xor_block}
use Rattle.blockplan.specs.Pass.{bytes_at, plain_at, under}

-- k blocks of s are passed: their bytes are in front of what the output had, and the sum has their message blocks in it too
pub record MorePassed (opening : Bool) (rounds : ℕ) (mask : ℕ → List ℕ) (s : List ℕ) (k : ℕ) (old new sum more : List ℕ) : Type 0 where
  pub written : new ≡ cat (bytes_at (under opening rounds mask) s) k ++ drop (128 * k) old
  pub summed : more ≡ fold (λ j t. xor_block t (plain_at opening (under opening rounds mask) s j)) sum k
