-- Only a sale's last field looks at the kind. Assumes nothing.
use mathlib.Core.Path.{refl}
use Rattle.sales.specs.Sale.{detail_in, sale_in, cash_of}
use Rattle.sales.specs.AnyKind.{AnyKind}

pub any-kind : AnyKind
unfolding sale_in detail_in cash_of
any-kind = record {
  machine-same = λ key body j k. refl;
  sale-same = λ key body j k. refl;
  tail-same = λ key body j k. refl;
  amount-same = λ key body j k. refl;
  column-same = λ key body j k. refl;
  means-same = λ key body j k. refl;
  cash-same = λ key body j k. refl;
  clock-of = λ key body. refl;
  listed_of = λ key body. refl;
}
