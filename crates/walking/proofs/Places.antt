-- Where the first byte that is no step stands, found from the front. Assumes nothing.
use mathlib.Core.Path.{◌≡◌}
use mathlib.Core.Bool.{true, false}
use mathlib.Core.List.{List}
use Prim.Native.Nat.{ℕ, suc, ◌+◌, ◌<◌}
use native.Mathlib.Numerals.{add-one}
use lib.ListN.{length, get_or, drop}
use lib.Seq.{drop-cons}
use Rattle.walking.specs.Walking.{first_bad, is_step}

pub bad-here : (l : List ℕ) (i : ℕ) → i < length l → is_step (get_or l i 0) ≡ false → first_bad (drop i l) ≡ 0
unfolding first_bad
bad-here l i h e = rw (drop-cons l i 0 h, e)

pub step-here : (l : List ℕ) (i : ℕ) → i < length l → is_step (get_or l i 0) ≡ true → first_bad (drop i l) ≡ suc (first_bad (drop (i + 1) l))
unfolding first_bad
step-here l i h e = rw (drop-cons l i 0 h, e, add-one)
