use Prim.Native.Nat.{ℕ, ◌+◌, ◌-◌, ◌*◌}
use native.Mathlib.Omega.{arith}
use mathlib.Core.Path.{◌≡◌, ap}
use Rattle.cells.specs.Numbers.{part}
use Rattle.cells.specs.Cells.{body_of}
use Rattle.cells.proofs.fields.body_of.Goals as goal

pub returns : goal.returns
unfolding body_of
returns c =
    let n = c.args.c in
    let e : 64 * n + 64 - (64 * n + 3) ≡ 61 = omega arith in
    ap (λ (k : ℕ). part k (64 * n + 3) c.args.s.now) e
