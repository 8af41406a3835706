-- The loop's invariant: the first i words of each block are in. Assumes nothing.
use mathlib.Core.List.{List}
use Prim.Native.Nat.{ℕ, ◌+◌, ◌*◌}
use lib.ListN.{get_or}
use lib.Bits.{bit_xor}
use Rattle.words.proofs.Loops.{Filling}
use Rattle.quads.proofs.masked.gather.Given as goal

-- word i of lane m, xor that of its mask
abbrev unmasked : List ℕ → (ℕ → List ℕ) → ℕ → ℕ → ℕ
unmasked w mask m i = bit_xor (get_or w (4 * i + m) 0) (get_or (mask m) i 0)

abbrev pub invariant-loop-i : goal.invariant-loop-i
invariant-loop-i g l =
    let word = unmasked l.w (g.M.Masks.mask l.masks) in
    Filling (word 0) 16 l.a l.i × (Filling (word 1) 16 l.b l.i × (Filling (word 2) 16 l.c l.i × Filling (word 3) 16 l.d l.i))
