-- Two numbers and the tail, one behind the other. Assumes nothing.
use mathlib.Core.Path.{◌∙◌}
use mathlib.Core.List.{append_assoc}
use native.Mathlib.Omega.{arith}
use Rattle.sales.specs.Sale.{nonce_of}
use Rattle.sales.proofs.Typed.{fields_fit}
use Rattle.sales.proofs.Puts.{begins-none, begins-more, begins-four, begins-all}
use Rattle.sales.proofs.fields.put_nonce.Goals as goal

pub returns : goal.returns
unfolding nonce_of
returns c =
    let of = c.args.of in
    let none = begins-none c.args.out.now c.requires in
    let one = begins-four none of.machine _ (omega arith) (c.copy_from_slice.ensures.after ∙ c.to_le_bytes.ensures) in
    let two = begins-four one of.sale _ (omega arith) (c.copy_from_slice-2.ensures.after ∙ c.to_le_bytes-2.ensures) in
    let three = begins-more two 8 of.tail _ (omega arith) (fields_fit of _ c.well_formed.0).tail-long c.copy_from_slice-3.ensures.after in
    begins-all three (omega arith) ∙ simp append_assoc
