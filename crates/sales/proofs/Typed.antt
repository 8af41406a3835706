-- What owning a sale tells: its fields fit their widths. Assumes nothing.
use mathlib.Core.List.{List}
use lib.ListN.{get_or}
use mir.Syntax.{w8}
use mir.Val.{Val, Fits as Holds}
use denote.Laws.{Is}
use Rattle.sales.specs.declared.Sale.{Sale}
use Rattle.sales.specs.Sale.{Fits}
use Rattle.sales.specs.contracts.Sale.{the_row}
use borrow.Author.Rules.{rules}

pub fields_fit : (x : Sale) (vs : List Val) → Is the_row x vs → Fits x
fields_fit x vs is = record {
  machine-fits = search rules;
  sale-fits = search rules;
  tail-long = search rules;
  tail-bytes = record { bytes = λ i. let f : Holds w8 (get_or x.tail i 0) = search rules in f.fits };
  amount-fits = search rules;
  column_fits = search rules;
  means-fits = search rules;
  price-fits = search rules;
  day-fits = search rules;
}
