-- The library's rotation is the two shifts, whose parts have no bit in common. Assumes nothing.
use Rattle.std.proofs.Common.{◌≡◌, ◌-◌, ◌%◌, arith}
use Rattle.words.proofs.Words.{machine}
use Rattle.words.proofs.word.rotate_right.Goals as goal

pub returns : goal.returns
returns c =
    let n = c.args.n in
    let down : n % 64 ≡ n = omega (arith, c.requires) in
    let up : (64 - n) % 64 ≡ 64 - n = omega (arith, c.requires) in
    rw (c.rotate_right.ensures, down, up) (machine n (64 - n) (omega arith) c.args.x c.ranges.x.fits)
