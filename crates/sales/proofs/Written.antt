-- A sale's 61 bytes as they are written: the nonce in front, the parcel behind it. Assumes nothing.
use mathlib.Core.List.{List, [], ◌++◌, append-nil}
use mathlib.Core.Path.{◌≡◌, ap, ◌∙◌}
use Prim.Native.Nat.{ℕ, ◌+◌, ◌-◌, ◌≤◌}
use native.Mathlib.Omega.{arith}
use lib.ListN.{length, take, drop, length-take, length-drop, drop_of_length-le}
use borrow.Rule.Slice.PartMut.{put_mid}
use Rattle.mem.specs.Mem.{start_of}
use Rattle.blockplan.specs.Parcel.{parcel_of}
use Rattle.mro.specs.Mro.{mro_mode}
use Rattle.sales.specs.declared.Sale.{Sale}
use Rattle.sales.specs.Sale.{nonce_of, record_of, sale_mode, body_for, Fits}
use Rattle.sales.proofs.Bodies.{nonce-long, record-long, sealed, sealed-long}
use Rattle.sales.proofs.Puts.{Begins, begins-none, begins-more, begins-all}

module _ (key : List ℕ) (x : Sale) (fits : Fits x) (out : List ℕ) (long : length out ≡ 61) where
  -- the bytes with the nonce in front
  abbrev begun : List ℕ → List ℕ
  begun nonce = put_mid 0 16 out nonce

  pub body-written : (nonce start r rest : List ℕ) → nonce ≡ nonce_of x → start ≡ start_of 6 key (take 16 (begun nonce)) → r ≡ record_of x
      → rest ≡ parcel_of (mro_mode 6 start) [] r ++ drop (length r + 32) (take (length (begun nonce) - 16) (drop 16 (begun nonce)))
      → put_mid 16 (length (begun nonce) - 16) (begun nonce) rest ≡ body_for key x
  unfolding body_for sale_mode
  body-written nonce start r rest n s e q =
      let one : Begins 61 16 (nonce_of x) (begun nonce) = begins-more (begins-none out long) 16 (nonce_of x) nonce (omega arith) (nonce-long x fits) n in
      let first : start ≡ start_of 6 key (nonce_of x) = s ∙ ap (start_of 6 key) one.front in
      let back = take (length (begun nonce) - 16) (drop 16 (begun nonce)) in
      let short : length back ≤ length r + 32 = simp (length-take, length-drop) (omega (arith, one.long, ap length e, record-long x fits)) in
      let none : drop (length r + 32) back ≡ [] = drop_of_length-le back {i = length r + 32} short in
      let is : rest ≡ sealed key x = q ∙ rw (none, first, e, append-nil) in
      begins-all
      (begins-more one (length (begun nonce) - 16) (sealed key x) rest (omega (arith, one.long)) (sealed-long key x fits ∙ omega (arith, one.long)) is)
      (omega (arith, one.long))
