-- Rotating left by n is rotating right by 64 - n. Assumes nothing.
use Rattle.std.proofs.Common.{◌≡◌, ◌-◌, ◌%◌, arith}
use Rattle.std.proofs.lemmas.Nat.{or_comm}
use Rattle.words.specs.Word.{rot_l}
use Rattle.words.proofs.Words.{machine}
use Rattle.words.proofs.word.rotate_left.Goals as goal

pub returns : goal.returns
unfolding rot_l
returns c =
    let n = c.args.n in
    let up : n % 64 ≡ n = omega (arith, c.requires) in
    let down : (64 - n) % 64 ≡ 64 - n = omega (arith, c.requires) in
    rw (c.rotate_left.ensures, up, down, or_comm) (machine (64 - n) n (omega arith) c.args.x c.ranges.x.fits)
