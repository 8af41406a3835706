-- Blocks passed behind others, and what the loop of fours keeps. Assumes nothing.
use mathlib.Core.Path.{◌≡◌, refl, ap, ◌∙◌}
use mathlib.Core.Bool.{Bool, true, false, cond}
use mathlib.Core.List.{List, ◌++◌}
use Prim.Native.Nat.{ℕ, ◌+◌, ◌-◌, ◌*◌, ◌/◌, ◌≤◌}
use lib.ListN.{length, take, drop}
use borrow.Rule.Slice.PartMut.{put_mid}
use Rattle.words.proofs.Lists.{cat-ext}
use Rattle.masks.specs.Run.{mask_from}
use Rattle.blockplan.specs.Pass.{bytes_at, plain_at, under, Passed}
use Rattle.blockplan.proofs.Passes.{passed-more}
use Rattle.quads.specs.Quads.{from_run}
use Rattle.quads.proofs.Moved.{fold-ext, bytes-moved, plain_moved}
use Rattle.opp_run_blocks.specs.More.{MorePassed}

-- asked twice, the answer is the same
pub cond-twice : (b : Bool) (x y z : List ℕ) → cond b x z ≡ cond b (cond b x y) z
cond-twice true x y z = refl
cond-twice false x y z = refl

-- n blocks, and k of the part behind them
pub joined : (opening : Bool) (rounds : ℕ) (run s : List ℕ) (n k : ℕ) (old xs ys sum more : List ℕ)
    → Passed opening rounds (mask_from 0 run) s n old xs sum (mask_from 0 run n)
    → MorePassed opening rounds (from_run 0 run n) (drop (128 * n) s) k (take (length xs - 128 * n) (drop (128 * n) xs)) ys sum more
    → Passed opening rounds (mask_from 0 run) s (n + k) old (put_mid (128 * n) (length xs - 128 * n) xs ys) more (mask_from 0 run (n + k))
joined opening rounds run s n k old xs ys sum more p q =
    let part = drop (128 * n) s in
    let here = from_run 0 run n in
    let all = mask_from 0 run in
    passed-more opening rounds all s n old xs ys sum more (all n) (all (n + k)) p k
    (q.written
    ∙ ap (λ (l : List ℕ). l ++ drop (128 * k) (take (length xs - 128 * n) (drop (128 * n) xs)))
    (cat-ext (bytes_at (under opening rounds here) part) (λ j. bytes_at (under opening rounds all) s (n + j)) k (λ j h. bytes-moved opening rounds 0 run s n j)))
    (q.summed
    ∙ fold-ext (plain_at opening (under opening rounds here) part) (λ j. plain_at opening (under opening rounds all) s (n + j)) sum k (λ j h. plain_moved opening rounds 0 run s n j))
    refl

-- 4 * i blocks are passed
pub record Running (opening : Bool) (rounds : ℕ) (run s old : List ℕ) (count : ℕ) (out sum : List ℕ) (i : ℕ) : Type 0 where
  pub within : i ≤ count
  pub count-is : count ≡ length s / 512
  pub long : length out ≡ length old
  pub passed : Passed opening rounds (mask_from 0 run) s (4 * i) old out sum (mask_from 0 run (4 * i))
