-- Five numbers, one behind the other. Assumes nothing.
use mathlib.Core.Path.{◌∙◌}
use mathlib.Core.List.{append_assoc}
use native.Mathlib.Omega.{arith}
use Rattle.sales.specs.Sale.{record_of}
use Rattle.sales.proofs.Typed.{fields_fit}
use Rattle.sales.proofs.Puts.{begins-none, begins-byte, begins-two, begins-four, begins-all}
use Rattle.sales.proofs.fields.put_record.Goals as goal

pub returns : goal.returns
unfolding record_of
returns c =
    let of = c.args.of in
    let none = begins-none c.args.out.now c.requires in
    let one = begins-four none of.amount _ (omega arith) (c.copy_from_slice.ensures.after ∙ c.to_le_bytes.ensures) in
    let two = begins-two one of.column _ (omega arith) (c.copy_from_slice-2.ensures.after ∙ c.to_le_bytes-2.ensures) in
    let three = begins-byte two of.means (omega arith) (fields_fit of _ c.well_formed.0).means-fits in
    let four = begins-four three of.price _ (omega arith) (c.copy_from_slice-3.ensures.after ∙ c.to_le_bytes-3.ensures) in
    let five = begins-two four of.day _ (omega arith) (c.copy_from_slice-4.ensures.after ∙ c.to_le_bytes-4.ensures) in
    begins-all five (omega arith) ∙ simp append_assoc
