-- The nonce in front, and the parcel that its start gives behind it. Assumes nothing.
use Rattle.sales.proofs.Typed.{fields_fit}
use Rattle.sales.proofs.Written.{body-written}
use Rattle.sales.proofs.write_sale.Goals as goal

pub returns : goal.returns
returns c =
    let a = c.args in
    body-written a.key.now a.of (fields_fit a.of _ c.well_formed.1.0) a.out.now c.requires _ _ _ _ c.put_nonce.ensures c.start-first.ensures c.put_record.ensures c.seal.ensures
