-- The 61 bytes of a sale: their length, that they open, and that the sale comes back out of them. Assumes nothing.
use mathlib.Core.Bool.{true}
use mathlib.Core.List.{List, [], ◌++◌}
use mathlib.Core.Path.{◌≡◌, refl, ap, ap₂, ◌∙◌}
use Prim.Native.Nat.{ℕ, ◌+◌, ◌^◌, ◌≤◌, ◌<◌}
use native.Mathlib.Omega.{arith}
use lib.ListN.{length, take, drop, length-append}
use lib.Seq.{take_at, drop_at, take_all}
use Rattle.words.specs.Block.{Bytes, le, low_bytes}
use Rattle.words.proofs.Blocks.{length-low_bytes, bytes-append, bytes_drop}
use Rattle.blockplan.specs.Parcel.{parcel_of, message_of, genuine}
use Rattle.blockplan.specs.Lawful.{Lawful}
use Rattle.blockplan.proofs.Parcels.{parcel-long, parcel-message, parcel-genuine, message-bytes}
use Rattle.mro.specs.Mro.{mro_mode}
use Rattle.mro.proofs.Opened.{mro-lawful}
use Rattle.mem.specs.Mem.{start_of}
use Rattle.cells.specs.Numbers.{part, number_at}
use Rattle.cells.specs.Changes.{new_kind}
use Rattle.cells.proofs.Numbers.{low_bytes-bytes, drop-after, number_read, number-alone, number_behind, number_lt, part-front}
use Rattle.sales.specs.declared.Sale.{Sale}
use Rattle.sales.specs.Sale.{nonce_of, record_of, sale_mode, body_for, stored_as, opens, record_in, detail_in, sale_in, Fits}
use Rattle.sales.specs.Sale.Detail.{listed}

-- the sealing of sales is lawful
sale-lawful : (key nonce : List ℕ) → Lawful (sale_mode key nonce)
unfolding sale_mode
sale-lawful key nonce = mro-lawful 6 (start_of 6 key nonce)

module _ (x : Sale) (h : Fits x) where
  pub nonce-long : length (nonce_of x) ≡ 16
  unfolding nonce_of
  nonce-long = simp (length-append, length-low_bytes) (omega (arith, h.tail-long))

  pub record-long : length (record_of x) ≡ 13
  unfolding record_of
  record-long = simp (length-append, length-low_bytes) (omega arith)

  record-bytes : Bytes (record_of x)
  unfolding record_of
  record-bytes =
      bytes-append (low_bytes 4 x.amount) _ (low_bytes-bytes 4 x.amount)
      (bytes-append (low_bytes 2 x.column) _ (low_bytes-bytes 2 x.column)
      (bytes-append (low_bytes 1 x.means) _ (low_bytes-bytes 1 x.means)
      (bytes-append (low_bytes 4 x.price) _ (low_bytes-bytes 4 x.price) (low_bytes-bytes 2 x.day))))

module _ (key : List ℕ) (x : Sale) where
  -- the record sealed
  abbrev pub sealed : List ℕ
  sealed = parcel_of (sale_mode key (nonce_of x)) [] (record_of x)

  pub sealed-long : Fits x → length sealed ≡ 45
  sealed-long h = parcel-long (sale_mode key (nonce_of x)) (sale-lawful key (nonce_of x)) [] (record_of x) ∙ ap (λ (n : ℕ). n + 32) (record-long x h)

  sealed-genuine : Fits x → genuine (sale_mode key (nonce_of x)) [] sealed ≡ true
  sealed-genuine h = parcel-genuine (sale_mode key (nonce_of x)) (sale-lawful key (nonce_of x)) [] (record_of x) (record-bytes x h)

  sealed-record : Fits x → message_of (sale_mode key (nonce_of x)) sealed ≡ record_of x
  sealed-record h = parcel-message (sale_mode key (nonce_of x)) (sale-lawful key (nonce_of x)) [] (record_of x) (record-bytes x h)

  body-parts : body_for key x ≡ nonce_of x ++ sealed
  unfolding body_for
  body-parts = refl

  pub body-long : Fits x → length (body_for key x) ≡ 61
  body-long h = rw body-parts (length-append (nonce_of x) sealed ∙ ap₂ (λ (a b : ℕ). a + b) (nonce-long x h) (sealed-long h))

  front : Fits x → take 16 (body_for key x) ≡ nonce_of x
  front h = rw body-parts (take_at (nonce_of x) sealed 16 (nonce-long x h))

  behind : Fits x → drop 16 (body_for key x) ≡ sealed
  behind h = rw body-parts (drop_at (nonce_of x) sealed 16 (nonce-long x h))

  pub body-opens : Bytes key → Fits x → opens key (body_for key x) ≡ true
  unfolding opens
  body-opens k h = rw (front h, behind h) (sealed-genuine h)

  body-record : Fits x → record_in key (body_for key x) ≡ record_of x
  unfolding record_in
  body-record h = rw (front h, behind h) (sealed-record h)

  -- a part of the nonce
  nonce-part : Fits x → (n at : ℕ) → at + n ≤ 16 → part n at (body_for key x) ≡ part n at (nonce_of x)
  nonce-part h n at q = rw body-parts (part-front n at (nonce_of x) sealed (omega (arith, nonce-long x h)))

  -- the numbers of the record
  record-amount : Fits x → number_at 4 0 (record_of x) ≡ x.amount
  unfolding record_of
  record-amount h = number_read 4 x.amount 0 [] _ refl h.amount-fits

  record-column : Fits x → number_at 2 4 (record_of x) ≡ x.column
  unfolding record_of
  record-column h = number_behind 2 4 0 x.amount _ ∙ number_read 2 x.column 0 [] _ refl h.column_fits

  record-means : Fits x → number_at 1 6 (record_of x) ≡ x.means
  unfolding record_of
  record-means h = number_behind 1 4 2 x.amount _ ∙ number_behind 1 2 0 x.column _ ∙ number_read 1 x.means 0 [] _ refl h.means-fits

  record-price : Fits x → number_at 4 7 (record_of x) ≡ x.price
  unfolding record_of
  record-price h =
      number_behind 4 4 3 x.amount _ ∙ number_behind 4 2 1 x.column _ ∙ number_behind 4 1 0 x.means _ ∙ number_read 4 x.price 0 [] _ refl h.price-fits

  record-day : Fits x → number_at 2 11 (record_of x) ≡ x.day
  unfolding record_of
  record-day h =
      number_behind 2 4 7 x.amount _ ∙ number_behind 2 2 5 x.column _ ∙ number_behind 2 1 4 x.means _ ∙ number_behind 2 4 0 x.price _
      ∙ number-alone 2 x.day h.day-fits

  pub body-sale : Bytes key → Fits x → sale_in key new_kind (body_for key x) ≡ stored_as x
  unfolding sale_in detail_in stored_as number_at nonce_of
  body-sale k h =
      let m = low_bytes 4 x.machine in
      let s = low_bytes 4 x.sale in
      λ i. record {
        machine = (ap le (nonce-part h 4 0 (omega arith)) ∙ number_read 4 x.machine 0 [] (s ++ x.tail) refl h.machine-fits) i;
        sale = (ap le (nonce-part h 4 4 (omega arith)) ∙ number_read 4 x.sale 4 m x.tail (length-low_bytes 4 x.machine) h.sale-fits) i;
        tail = (nonce-part h 8 8 (omega arith)
            ∙ ap (take 8) (drop-after 4 4 m (s ++ x.tail) (length-low_bytes 4 x.machine) ∙ drop_at s x.tail 4 (length-low_bytes 4 x.sale))
            ∙ take_all 8 x.tail (omega (arith, h.tail-long))) i;
        amount = (ap (number_at 4 0) (body-record h) ∙ record-amount h) i;
        column = (ap (number_at 2 4) (body-record h) ∙ record-column h) i;
        means = (ap (number_at 1 6) (body-record h) ∙ record-means h) i;
        detail = ap₂ listed (ap (number_at 4 7) (body-record h) ∙ record-price h) (ap (number_at 2 11) (body-record h) ∙ record-day h) i;
      }

-- ---- the amount that 61 bytes hold has four bytes
pub amount-lt : (key : List ℕ) (kind : ℕ) (body : List ℕ) → Bytes body → (sale_in key kind body).amount < 2 ^ 32
unfolding sale_in record_in number_at sale_mode
amount-lt key kind body h =
    let m = message_of (mro_mode 6 (start_of 6 key (take 16 body))) (drop 16 body) in
    let b = message-bytes (mro_mode 6 (start_of 6 key (take 16 body))) (mro-lawful 6 (start_of 6 key (take 16 body))) [] (drop 16 body) (bytes_drop 16 body h) in
    number_lt 4 0 m b
