-- The loop's invariant: no setting before n opens the parcel, and the last four have left their starts. Assumes nothing.
use mathlib.Core.Path.{◌≡◌}
use mathlib.Core.Bool.{false}
use Prim.Native.Nat.{ℕ, ◌<◌}
use Rattle.diagnosing.specs.Diagnosing.{sixteen, nth, opens_under}
use Rattle.diagnosing.proofs.Trying.{Left}
use Rattle.diagnosing.proofs.Trial.first_opening.Given as goal

abbrev pub invariant-loop-n : goal.invariant-loop-n
invariant-loop-n l =
    Left l.self.of.key.now l.self.of.nonce.now l.starts l.n
    × ((m : ℕ) → m < l.n → opens_under l.self.of.key.now l.self.of.nonce.now l.self.of.header.now l.self.parcel.now (nth sixteen m) ≡ false)
