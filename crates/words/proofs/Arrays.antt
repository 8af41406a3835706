-- An array of sixteen u64 is a block. Assumes nothing.
use mathlib.Core.List.{List}
use Prim.Native.Nat.{ℕ}
use mir.Syntax.{w64}
use mir.Val.{Val, Fits}
use denote.Laws.{Is}
use denote.Plain.{UInt}
use denote.Array.{Array}
use lib.ListN.{get_or}
use Rattle.words.specs.Block.{Block}
use borrow.Author.Rules.{rules}

-- what owning an array of sixteen u64 tells
pub array-block : (s : List ℕ) (vs : List Val) → Is (Array (UInt w64) 16) s vs → Block s
array-block s vs is = record {
  long = search rules;
  words = λ i. let f : Fits w64 (get_or s i 0) = search rules in f.fits;
}
