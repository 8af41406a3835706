-- The bench sheet's cases that are proved, P1 to P11 and the limits of the checks, and rows of the cards, as rows of one table (document 01, "Bench sheet"; document 02, cards 1, 2 and 4 to 9). Assumes nothing.
use Rattle.std.specs.Prelude.{◌≡◌, Bool, true, false, cond, List, [], ◌∷◌, ◌++◌, map, ℕ, suc, ◌+◌, ◌-◌, ◌*◌, ◌%◌, ◌<◌, eqb, pos, negsuc, length, get_or, set, drop, Result, Ok, Err}
use Rattle.std.specs.Int.Bits.{bit_xor}
use Rattle.words.specs.Sequence.{tab, times, zeros}
use Rattle.words.specs.Block.{low_bytes, bytes_of, zero_block}
use Rattle.permutation.specs.Permutation.{g_of, round, perm}
use Rattle.masks.specs.Run.{grown}
use Rattle.masks.specs.Steps.{alpha, beta, gamma}
use Rattle.back_steps.specs.BackSteps.{back_alpha}
use Rattle.mem.specs.Mem.{start_block, old_start_block, old_start_of}
use Rattle.blockplan.specs.Parcel.{parcel_of, same}
use Rattle.opp.specs.Opp.{padded}
use Rattle.modes.specs.Modes.{mode_of}
use Rattle.answers.specs.declared.Refusal.{Refusal}
use Rattle.answers.specs.Answers.{Check, Answer, ground_number, code_of, totalled}
use Rattle.checks.specs.Checks.{seal_checks, open_checks, convert_checks, run_length, seal_run_checks, open_run_checks}
use Rattle.sealing.specs.Sealing.{seal_call, open_call, open_old_call}
use Rattle.converting.specs.Converting.{convert_call}
use Rattle.diagnosing.specs.declared.Setting.{Setting}
use Rattle.diagnosing.specs.declared.Diagnosis.{Diagnosis}
use Rattle.diagnosing.specs.Diagnosing.{setting, sixteen, nth, reason_for, opens_under, diagnose_call, bit, reason_told}
use Rattle.run_sealing.specs.RunSealing.{seal_run_call, open_run_call}
use Rattle.walking.specs.Walking.{walk_checks, jump_checks}
use Rattle.cells.specs.Cells.{is_length, free, kind_fits, cell_named, cell_before}
use Rattle.cells.specs.Changes.{fresh, filled, emptied}
use Rattle.sales.specs.declared.Sale.{Sale}
use Rattle.sales.specs.Sale.{sale_of, record_of, Detail, StoredSale, stored_as, detail_in, cash_of}
use Rattle.sales.specs.Sale.Detail.{clock, listed}
use Rattle.store.specs.Store.{format_checks, take_checks, cancel_checks, total_checks, read_checks, format_call, take_call, cancel_call, total_call, read_part, read_refusal, read_offset, amount_and_price, look_up_call, looked_up}
use Rattle.store.specs.declared.LookUp.{LookUp}

-- a case: what the definitions give, and what it must be
pub record Row : Type 0 where
  pub got : List ℕ
  pub want : List ℕ

-- words not named are zero
unfoldable pub word : ℕ → ℕ → List ℕ
word i w = set zero_block i w

-- G of four words, as a list
unfoldable pub g : ℕ → ℕ → ℕ → ℕ → List ℕ
g a b c d =
    let q = g_of (record { a = a; b = b; c = c; d = d }) in
    q.a ∷ q.b ∷ q.c ∷ q.d ∷ []

-- BLAKE2b's work vector for the empty message, no key and a digest of 64 bytes (RFC 7693, section 3.2); no passage of documents 01 and 02
unfoldable pub work_vector : List ℕ
work_vector =
    0x6a09e667f2bdc948 ∷ 0xbb67ae8584caa73b ∷ 0x3c6ef372fe94f82b ∷ 0xa54ff53a5f1d36f1
    ∷ 0x510e527fade682d1 ∷ 0x9b05688c2b3e6c1f ∷ 0x1f83d9abfb41bd6b ∷ 0x5be0cd19137e2179
    ∷ 0x6a09e667f3bcc908 ∷ 0xbb67ae8584caa73b ∷ 0x3c6ef372fe94f82b ∷ 0xa54ff53a5f1d36f1
    ∷ 0x510e527fade682d1 ∷ 0x9b05688c2b3e6c1f ∷ 0xe07c265404be4294 ∷ 0x5be0cd19137e2179
    ∷ []

-- the digest, as words: every word of the message's block is zero, so that the twelve rounds are P
unfoldable pub empty_digest : List ℕ
empty_digest =
    let p = perm 12 work_vector in
    tab (λ i. bit_xor (get_or work_vector i 0) (bit_xor (get_or p i 0) (get_or p (i + 8) 0))) 8

-- a leftover of 127 bytes, none of them zero
unfoldable pub full : List ℕ
full = tab (λ i. suc i) 127

-- a key and a nonce of unlike bytes
unfoldable pub sample_key : List ℕ
sample_key = tab (λ i. 16 + i) 32

unfoldable pub sample_nonce : List ℕ
sample_nonce = tab (λ i. i) 16

-- a header and a message of that many bytes, the message of up to 256: no two blocks alike
unfoldable pub sample_header : ℕ → List ℕ
sample_header n = tab (λ i. 255 - i % 251) n

unfoldable pub sample_message : ℕ → List ℕ
sample_message n = tab (λ i. i) n

-- an output before a call, so that what is cleared, what is written and what stays are told apart
unfoldable pub nines : ℕ → List ℕ
nines n = tab (λ i. 9) n

-- the sixteen words of that key and nonce before P, with these two in words 10 and 11
unfoldable pub sample_words : ℕ → ℕ → List ℕ
sample_words w10 w11 =
    0x0706050403020100 ∷ 0x0f0e0d0c0b0a0908 ∷ 0 ∷ 0 ∷ 0 ∷ 0 ∷ 0 ∷ 0 ∷ 0 ∷ 0 ∷ w10 ∷ w11
    ∷ 0x1716151413121110 ∷ 0x1f1e1d1c1b1a1918 ∷ 0x2726252423222120 ∷ 0x2f2e2d2c2b2a2928 ∷ []

-- a tag by its four words
unfoldable pub tag_words : ℕ → ℕ → ℕ → ℕ → List ℕ
tag_words w0 w1 w2 w3 = low_bytes 8 w0 ++ (low_bytes 8 w1 ++ (low_bytes 8 w2 ++ low_bytes 8 w3))

-- the tag of the empty message with that key and nonce over the section 4 start, OPP with six rounds and MRO with four; no passage of documents 01 and 02
unfoldable pub old_opp : List ℕ
old_opp = tag_words 0x71fdb03dd1b2e91e 0x8058ed009340cf93 0xe069c35c13e7debe 0x514c91ccfc7057ba

unfoldable pub old_mro : List ℕ
old_mro = tag_words 0x06e87aeac9a18b13 0x8300ddbf924add88 0x5d333aa04a2b9dfb 0x0d2d029c95658f13

-- that of the empty message with zero key and nonce and four rounds, from card 4's start, OPP and MRO; no passage of documents 01 and 02
unfoldable pub new_opp : List ℕ
new_opp = tag_words 0x497fc0822da209e5 0xcc7f9305b4dfc236 0x6edc4e9f41c40436 0x6f0ca90236c96054

unfoldable pub new_mro : List ℕ
new_mro = tag_words 0x1802b346e068fc82 0x82aad085481337eb 0xf36f7b664cdc81b1 0x7bc30c42aabf07b6

-- parcels of sample_header of 5 bytes and sample_message of 3, with sample_key, sample_nonce and four rounds from card 4's start, OPP and MRO; no passage of documents 01 and 02
unfoldable pub new_opp_parcel : List ℕ
new_opp_parcel = 0x7f ∷ 0xb4 ∷ 0x60 ∷ tag_words 0xc5c6ef4f7c2fed32 0x6548ebf02f29cf36 0xa68345fbad1bc615 0x19502cbcb9ed0642

unfoldable pub new_mro_parcel : List ℕ
new_mro_parcel = 0x88 ∷ 0xad ∷ 0x78 ∷ tag_words 0x3297f71cfe06b4fd 0x3be5246774cbf91f 0x27619c44ab603f1c 0x30217af8aefcb91b

-- what seal writes for sample_header and sample_message of these lengths, with the same key, nonce and rounds
unfoldable pub sample_parcel : ℕ → ℕ → ℕ → List ℕ
sample_parcel mode header message =
    (seal_call mode 4 sample_key sample_nonce (sample_header header) (sample_message message) (nines (message + 32))).1

-- the parcel of a message with zero key and nonce and an empty header, over the section 4 start
unfoldable pub sealed_old : ℕ → ℕ → List ℕ → List ℕ
sealed_old mode rounds message = parcel_of (mode_of mode rounds (old_start_of rounds (zeros 32) (zeros 16))) [] message

-- what checks find: the number and the place, or 0 and 0
abbrev pub finds : Check → List ℕ
finds (Ok none) = 0 ∷ 0 ∷ []
finds (Err found) = ground_number found.why ∷ found.place ∷ []

-- what a call answers, the number, 0 where nothing is refused, and the value or the place; then what it leaves in the output
unfoldable pub answered : Answer × List ℕ → List ℕ
answered (Ok value, out) = 0 ∷ value ∷ out
answered (Err found, out) = ground_number found.why ∷ found.place ∷ out

-- opening a parcel of sample_header of 5 bytes from a run, into an output of four bytes
unfoldable pub opened_by_run : ℕ → List ℕ → List ℕ
opened_by_run mode parcel =
    let r = open_run_call mode 4 sample_key sample_nonce (sample_header 5) parcel (nines 4) (zeros 21) in
    answered (r.0, r.1.0)

-- a sale of 150 cents, listed at 148, on day 291
unfoldable pub paid : ℕ → Sale
paid means = sale_of 7 1 (zeros 8) 150 4 means 148 291

-- 61 bytes that begin with a machine and a sale number
unfoldable pub body_named : ℕ → ℕ → List ℕ
body_named machine sale = low_bytes 4 machine ++ (low_bytes 4 sale ++ zeros 53)

-- a store of n cells in which sale 1 of machine 7 was taken
unfoldable pub one_sold : ℕ → List ℕ
one_sold n = filled (body_named 7 1) (fresh n)

-- a store of n cells in which sales 1 and 2 of machine 7 were taken, of bytes that don't open
unfoldable pub two_sales : ℕ → List ℕ
two_sales n = filled (body_named 7 2) (one_sold n)

-- what read's checks find in a store, asked for sale 1 of machine 7
unfoldable pub broken_by : List ℕ → List ℕ
broken_by s = finds (read_checks 7 1 s)

-- the sale of 150 cents as its cell's 61 bytes, means 1, sealed with sample_key from card 4's start; no passage of documents 01 and 02
unfoldable pub sold_body : List ℕ
sold_body =
    7 ∷ 0 ∷ 0 ∷ 0 ∷ 1 ∷ (zeros 11
    ++ (0x94 ∷ 0xd0 ∷ 0x1c ∷ 0x0f ∷ 0x3f ∷ 0x02 ∷ 0x13 ∷ 0x16 ∷ 0xe1 ∷ 0xc8 ∷ 0x7e ∷ 0x0b ∷ 0x95
    ∷ tag_words 0xfe9b28cc40abe1b8 0x36b85e04e4177b31 0x739471c2fd0fc0e7 0x710d3d2fcf82c6d5))

-- the same with zeros in the place of price and day, as the unit of cards 4 to 7 sealed it with a clock of zeros; no passage of documents 01 and 02
unfoldable pub zero_body : List ℕ
zero_body =
    7 ∷ 0 ∷ 0 ∷ 0 ∷ 1 ∷ (zeros 11
    ++ (0xb1 ∷ 0x69 ∷ 0x2e ∷ 0x62 ∷ 0x40 ∷ 0x70 ∷ 0xb2 ∷ 0xb2 ∷ 0x69 ∷ 0xfa ∷ 0xf0 ∷ 0x9c ∷ 0xae
    ∷ tag_words 0x97ee3b7cf3049f21 0x52e9c6a734e9815f 0xac3e9f2dd5c7620b 0x83fc528bec786a11))

-- a store of two cells that holds these 61 bytes in a cell of this kind: no cell is free
unfoldable pub store_of : ℕ → List ℕ → List ℕ
store_of kind body = 1 ∷ (zeros 63 ++ (0 ∷ 0 ∷ kind ∷ body))

-- what C gets of a look-up: the one number, and the two variables, which held 8 and 9
unfoldable pub told : Result LookUp Refusal → List ℕ
told r = let c = looked_up r 8 9 in c.0 ∷ c.1.0 ∷ c.1.1 ∷ []

-- what C gets of a total: the one number, and its variable, which held 9
unfoldable pub told_total : Answer → List ℕ
told_total a = let c = totalled a 9 in c.0 ∷ c.1 ∷ []

-- a refusal's number and place as the one number
unfoldable pub code : ℕ → ℕ → ℕ
code number place = number * 4294967296 + place

-- the last field of a sale: 1 and the clock, or 2, price and day
abbrev pub detail_fields : Detail → List ℕ
detail_fields (clock bytes) = 1 ∷ bytes
detail_fields (listed price day) = 2 ∷ price ∷ day ∷ []

-- all fields: its numbers, the tail, amount, column, means, and that one
unfoldable pub fields : StoredSale → List ℕ
fields x = x.machine ∷ x.sale ∷ (x.tail ++ (x.amount ∷ x.column ∷ x.means ∷ detail_fields x.detail))

-- a sale of this amount and last field, as a store holds it
unfoldable pub held_with : ℕ → Detail → StoredSale
held_with amount detail = record { machine = 7; sale = 1; tail = zeros 8; amount = amount; column = 4; means = 1; detail = detail }

-- a setting as numbers: 1 for the old start, the mode, the rounds
unfoldable pub setting_numbers : Setting → List ℕ
setting_numbers s = bit s.old ∷ s.mode ∷ s.rounds ∷ []

-- the test that setting n of the sixteen alone passes; none of them where n is 16
unfoldable pub only : ℕ → Setting → Bool
only n s = same (setting_numbers s) (setting_numbers (nth sixteen n))

-- what C gets of a diagnosis
unfoldable pub reason : Result Diagnosis Refusal → ℕ
reason r = code_of (reason_told r)

-- the bench sheet in its order, P10 and P11 over the section 4 start; then the table's other grounds, and rows of the cards, card by card. Sealed bytes that no document has
-- are as two implementations outside the proofs, in C and in Rust, compute them
unfoldable pub table : List Row
table =
    -- ---- P1 to P11
    record { got = g 1 0 0 0; want = 0x101 ∷ 0x0202000200020200 ∷ 0x0101000100010000 ∷ 0x0101000000010000 ∷ [] }  -- P1
    ∷ record { got = round zero_block; want = zero_block }  -- P2
    ∷ record { got = alpha (word 0 1); want = word 15 0x0020000000000000 }  -- P3
    ∷ record { got = alpha (word 0 0x800); want = word 15 1 }  -- P4
    ∷ record { got = alpha (word 5 1); want = set (word 4 1) 15 0x2000 }  -- P5
    ∷ record { got = alpha (word 5 0x0008000000000000); want = word 4 0x0008000000000000 }  -- P6
    ∷ record { got = beta (word 0 1); want = set (word 0 1) 15 0x0020000000000000 }  -- P7
    ∷ record { got = back_alpha (word 15 1); want = word 0 0x800 }  -- P8
    ∷ record { got = bytes_of (padded full); want = full ++ (1 ∷ []) }  -- P9
    ∷ record { got = sealed_old 1 4 []; want = zeros 32 }  -- P10, OPP and MRO, over the section 4 start; with every round count in `zero-tags` below
    ∷ record { got = sealed_old 2 4 []; want = zeros 32 }
    ∷ record { got = sealed_old 1 4 (zeros 128); want = zeros 160 }  -- P11, over the section 4 start; with every round count in `zero-parcel` below
    -- ---- the sheet's refusals and limits
    ∷ record { got = finds (seal_checks 1 5 31 15 4097 65537 0); want = 2 ∷ 0 ∷ [] }  -- rounds 5 and key 31 bytes
    ∷ record { got = finds (seal_checks 1 4 32 16 4096 65536 65568); want = 0 ∷ 0 ∷ [] }  -- header 4,096 and message 65,536 pass
    ∷ record { got = finds (seal_checks 2 6 32 16 4097 65537 0); want = 5 ∷ 0 ∷ [] }  -- header 4,097
    ∷ record { got = finds (seal_checks 2 6 32 16 4096 65537 0); want = 6 ∷ 0 ∷ [] }  -- message 65,537
    ∷ record { got = finds (open_checks 1 4 32 16 0 31 0); want = 8 ∷ 0 ∷ [] }  -- parcel of 31 bytes, and of 32: an empty message or 9, as P10's among card 4's rows
    ∷ record { got = finds (open_checks 2 6 32 16 0 32 0); want = 0 ∷ 0 ∷ [] }
    ∷ record { got = finds (seal_checks 1 4 32 16 0 128 159); want = 7 ∷ 0 ∷ [] }  -- output 159 for a message of 128
    ∷ record { got = finds (jump_checks 128 (pos 65536) (negsuc 65535) (pos 0) 128); want = 0 ∷ 0 ∷ [] }  -- net counts 65,536 and -65,536 pass
    ∷ record { got = finds (jump_checks 128 (pos 65537) (pos 0) (pos 0) 0); want = 11 ∷ 0 ∷ [] }  -- 65,537 of each kind, and -65,537
    ∷ record { got = finds (jump_checks 128 (pos 0) (pos 65537) (pos 0) 0); want = 11 ∷ 0 ∷ [] }
    ∷ record { got = finds (jump_checks 128 (pos 0) (pos 0) (pos 65537) 0); want = 11 ∷ 0 ∷ [] }
    ∷ record { got = finds (jump_checks 128 (pos 0) (negsuc 65536) (pos 0) 0); want = 11 ∷ 0 ∷ [] }
    ∷ record { got = finds (walk_checks 128 (1 ∷ 7 ∷ 0 ∷ []) 0); want = 12 ∷ 1 ∷ [] }  -- steps 1, 7, 0
    ∷ record { got = gamma (word 0 1); want = set (set (word 0 1) 14 0x0020000000000000) 15 0x0020000000000000 }  -- maskwalk's example
    -- ---- document 01's table where the sheet has no line. Here and above each ground behind the one found holds too, if it can beside it
    ∷ record { got = finds (seal_checks 3 5 31 15 4097 65537 0); want = 1 ∷ 0 ∷ [] }  -- mode 3
    ∷ record { got = finds (seal_checks 1 4 31 15 4097 65537 0); want = 3 ∷ 0 ∷ [] }  -- key 31 bytes
    ∷ record { got = finds (open_checks 2 4 32 15 4097 31 0); want = 4 ∷ 0 ∷ [] }  -- nonce 15 bytes
    ∷ record { got = finds (open_checks 2 4 32 16 4097 31 0); want = 5 ∷ 0 ∷ [] }  -- header 4,097 and parcel 31 bytes
    ∷ record { got = finds (open_checks 1 4 32 16 4096 65568 65536); want = 0 ∷ 0 ∷ [] }  -- parcel 65,568 passes
    ∷ record { got = finds (open_checks 1 4 32 16 4096 65569 0); want = 6 ∷ 0 ∷ [] }  -- parcel 65,569
    ∷ record { got = finds (open_checks 1 4 32 16 0 160 127); want = 7 ∷ 0 ∷ [] }  -- output 127 for a parcel of 160
    ∷ record { got = finds (walk_checks 128 [] 127); want = 7 ∷ 0 ∷ [] }  -- output 127 for a block
    ∷ record { got = finds (jump_checks 128 (pos 0) (pos 0) (pos 0) 127); want = 7 ∷ 0 ∷ [] }
    ∷ record { got = finds (walk_checks 127 (times (λ s. 7 ∷ s) 4097 []) 0); want = 10 ∷ 0 ∷ [] }  -- start 127 bytes
    ∷ record { got = finds (jump_checks 127 (pos 65537) (pos 0) (pos 0) 0); want = 10 ∷ 0 ∷ [] }
    ∷ record { got = finds (walk_checks 128 (times (λ s. 6 ∷ s) 4095 (1 ∷ [])) 128); want = 0 ∷ 0 ∷ [] }  -- 4,096 steps pass
    ∷ record { got = finds (walk_checks 128 (times (λ s. 7 ∷ s) 4097 []) 0); want = 13 ∷ 0 ∷ [] }  -- 4,097 steps
    -- ---- card 1: the store
    ∷ record { got = fresh 2; want = 0 ∷ 0 ∷ 1 ∷ 0 ∷ zeros 124 }  -- a formatted store: two cells, and three of them chained
    ∷ record { got = free (fresh 3); want = 1 ∷ 2 ∷ [] }
    ∷ record { got = finds (format_checks (zeros 64)); want = 18 ∷ 0 ∷ [] }  -- one cell, two, and a byte more
    ∷ record { got = finds (format_checks (zeros 128)); want = 0 ∷ 0 ∷ [] }
    ∷ record { got = finds (format_checks (zeros 129)); want = 18 ∷ 0 ∷ [] }
    ∷ record { got = answered (format_call (nines 128)); want = 0 ∷ 0 ∷ fresh 2 }
    ∷ record { got = finds (take_checks (zeros 31) (paid 1) (zeros 64)); want = 3 ∷ 0 ∷ [] }  -- 3 before 18
    ∷ record { got = finds (take_checks (zeros 32) (paid 1) (one_sold 2)); want = 16 ∷ 0 ∷ [] }  -- the same numbers again: 16 before 15
    ∷ record { got = finds (take_checks (zeros 32) (paid 1) (filled (body_named 7 2) (fresh 2))); want = 15 ∷ 0 ∷ [] }
    ∷ record { got = finds (cancel_checks (zeros 32) 7 3 (two_sales 3)); want = 16 ∷ 0 ∷ [] }  -- absent on cancel
    ∷ record { got = finds (cancel_checks sample_key 7 1 (two_sales 3)); want = 9 ∷ 1 ∷ [] }  -- 9 with its cell: of the sale named, and of the first in the chain
    ∷ record { got = finds (total_checks sample_key (two_sales 3)); want = 9 ∷ 2 ∷ [] }
    ∷ record { got = answered (read_refusal 7 1 (fresh 2), read_part 7 1 (fresh 2)); want = 16 ∷ 0 ∷ [] }  -- absent on read, and there: the refusal and the part,
    ∷ record { got = answered (read_refusal 7 1 (two_sales 3), read_part 7 1 (two_sales 3)); want = 0 ∷ 0 ∷ body_named 7 1 }
    ∷ record { got = answered (read_offset 7 1 (two_sales 3), []); want = 0 ∷ 67 ∷ [] }  -- and the offset for C
    ∷ record { got = emptied 0 1 (one_sold 3); want = fresh 3 }  -- taken and cancelled: as it was
    ∷ record {
      got =
          let s = filled (body_named 7 3) (two_sales 5) in
          emptied (cell_before 7 2 s) (cell_named 7 2 s) s;
      want = 3 ∷ 0 ∷ 2 ∷ (zeros 61
          ++ ((0 ∷ 0 ∷ 2 ∷ body_named 7 1)
          ++ ((4 ∷ zeros 63)
          ++ ((1 ∷ 0 ∷ 2 ∷ body_named 7 3)
          ++ zeros 64))));
    }  -- three taken and the middle one cancelled: its cell is first among the free
    ∷ record { got = answered (take_call sample_key (paid 1) (fresh 2)); want = 0 ∷ 1 ∷ store_of 2 sold_body }  -- a whole take, total and cancel
    ∷ record { got = answered (total_call sample_key (store_of 2 sold_body), []); want = 0 ∷ 150 ∷ [] }
    ∷ record { got = answered (cancel_call sample_key 7 1 (store_of 2 sold_body)); want = 0 ∷ 150 ∷ fresh 2 }
    ∷ record { got = cash_of (stored_as (paid 1)) ∷ cash_of (stored_as (paid 2)) ∷ []; want = 150 ∷ 0 ∷ [] }  -- means 1 counts, means 2 does not
    -- ---- card 2: rounds
    ∷ record { got = finds (seal_checks 1 8 32 16 0 0 32); want = 0 ∷ 0 ∷ [] }  -- 8 and 12 pass, 10 does not
    ∷ record { got = finds (open_checks 2 12 32 16 0 32 0); want = 0 ∷ 0 ∷ [] }
    ∷ record { got = finds (open_checks 1 10 32 16 0 32 0); want = 2 ∷ 0 ∷ [] }
    ∷ record {
      got = empty_digest;
      want = 0x03590142f7026a78 ∷ 0x72d2522585fdc6c6 ∷ 0x614758e140472f91 ∷ 0x19541ff717e2868a
          ∷ 0x5358eeaf31105ed2 ∷ 0x4bb04e9344648913 ∷ 0x55b748145b683a90 ∷ 0xcee29bfe1a706fd5 ∷ [];
    }  -- twelve rounds: BLAKE2b's digest of the empty message
    -- ---- card 4: the start
    ∷ record { got = start_block 4 sample_key sample_nonce; want = sample_words 4 256 }  -- before P, with each allowed count
    ∷ record { got = start_block 6 sample_key sample_nonce; want = sample_words 6 256 }
    ∷ record { got = start_block 8 sample_key sample_nonce; want = sample_words 8 256 }
    ∷ record { got = start_block 12 sample_key sample_nonce; want = sample_words 12 256 }
    ∷ record { got = old_start_block sample_key sample_nonce; want = sample_words 0 0 }  -- section 4's
    ∷ record { got = answered (open_old_call 1 4 (zeros 32) (zeros 16) [] (zeros 32) []); want = 0 ∷ 0 ∷ [] }  -- P10's parcel opens under the section 4 start, and not under card 4's: OPP
    ∷ record { got = answered (open_call 1 4 (zeros 32) (zeros 16) [] (zeros 32) []); want = 9 ∷ 0 ∷ [] }
    ∷ record { got = answered (open_old_call 2 4 (zeros 32) (zeros 16) [] (zeros 32) []); want = 0 ∷ 0 ∷ [] }  -- MRO
    ∷ record { got = answered (open_call 2 4 (zeros 32) (zeros 16) [] (zeros 32) []); want = 9 ∷ 0 ∷ [] }
    ∷ record { got = answered (open_old_call 1 4 (zeros 32) (zeros 16) [] (zeros 160) (nines 129)); want = 0 ∷ 128 ∷ (zeros 128 ++ (9 ∷ [])) }  -- likewise P11's
    ∷ record { got = answered (open_call 1 4 (zeros 32) (zeros 16) [] (zeros 160) (nines 129)); want = 9 ∷ 0 ∷ (zeros 128 ++ (9 ∷ [])) }
    ∷ record { got = answered (open_old_call 1 6 sample_key sample_nonce [] old_opp []); want = 0 ∷ 0 ∷ [] }  -- the empty message sealed from section 4's start, opened
    ∷ record { got = answered (open_old_call 2 4 sample_key sample_nonce [] old_mro []); want = 0 ∷ 0 ∷ [] }
    -- sealed from card 4's start with a key that is not zero; no passage of documents 01 and 02
    ∷ record {
      got = (seal_call 1 12 sample_key sample_nonce [] [] (nines 32)).1;
      want = tag_words 0xcb215bd593499c3f 0xb73a4e61a980aa54 0xeb5ddc07390000b6 0x91a1a84f27e1fd0b;
    }  -- the empty message, OPP with twelve rounds
    ∷ record { got = sample_parcel 1 5 3; want = new_opp_parcel }  -- a leftover in header and message: under OPP the tag's mask is (0, 3, 1), and under MRO zeros alone are the padding
    ∷ record { got = sample_parcel 2 5 3; want = new_mro_parcel }
    ∷ record {
      got = drop 120 (sample_parcel 1 261 131);
      want = low_bytes 8 0x56a58baee4f811cc
          ++ (0xdf ∷ 0x6e ∷ 0x16 ∷ tag_words 0x306c1b021cc1d1c7 0x45f87f76479270d9 0xd152ce4df3e13e72 0xe3bd8685b8be0b6e);
    }  -- a header of two blocks and a leftover, a message of one and a leftover, OPP and MRO: the last eight bytes of the block, the leftover, the tag
    ∷ record {
      got = drop 120 (sample_parcel 2 261 131);
      want = low_bytes 8 0x2ef4611be0ff7c5f
          ++ (0x54 ∷ 0x7a ∷ 0x7e ∷ tag_words 0xe738b5c5e5b8731d 0xaa4260169377e067 0x715efab9d0b6b91a 0x2aa21e485d646aab);
    }
    ∷ record {
      got = drop 248 (sample_parcel 1 133 256);
      want = low_bytes 8 0x8683b5fcb1db6082 ++ tag_words 0xb639a0b22018e594 0x45abb2cfd5ee7fe9 0xe02cba39b1189b8a 0xc44501d5a0809b1c;
    }  -- a header of one block and a leftover, a message of two blocks and none, OPP and MRO: the last eight bytes of the second, the tag
    ∷ record {
      got = drop 248 (sample_parcel 2 133 256);
      want = low_bytes 8 0xa2e832eabb0f501b ++ tag_words 0xac14e24c3d07e9de 0xd9563f5e3d99bf68 0xa12e89fb04afd5e5 0x50ec6ad15afc4bc9;
    }
    -- ---- card 5: the converter
    ∷ record { got = finds (convert_checks 1 4 32 16 0 160 159); want = 7 ∷ 0 ∷ [] }  -- output 159 for a parcel of 160
    ∷ record { got = finds (convert_checks 1 4 32 16 0 160 160); want = 0 ∷ 0 ∷ [] }
    ∷ record { got = answered (convert_call 1 4 (zeros 32) (zeros 16) [] (zeros 32) (nines 33)); want = 0 ∷ 32 ∷ (new_opp ++ (9 ∷ [])) }  -- P10's parcels converted, OPP and MRO
    ∷ record { got = answered (convert_call 2 4 (zeros 32) (zeros 16) [] (zeros 32) (nines 33)); want = 0 ∷ 32 ∷ (new_mro ++ (9 ∷ [])) }
    ∷ record { got = answered (convert_call 2 4 (zeros 32) (zeros 16) [] new_mro (nines 32)); want = 17 ∷ 0 ∷ nines 32 }  -- the new parcel is done already, and one of neither start: no byte changes
    ∷ record { got = answered (convert_call 2 4 (zeros 32) (zeros 16) [] (1 ∷ zeros 31) (nines 32)); want = 9 ∷ 0 ∷ nines 32 }
    -- ---- card 6: the run
    ∷ record { got = drop 16 (grown (word 0 1) 17); want = 0x0020000000000000 ∷ (zeros 15 ++ (0x0000040000000000 ∷ [])) }  -- words 16 to 32 of a run: rotated
    ∷ record { got = drop 16 (grown (word 5 1) 6); want = 0x2000 ∷ 0 ∷ 0 ∷ 0 ∷ 0 ∷ 0x0020000000000000 ∷ [] }  -- words 16 to 21 of another: shifted
    ∷ record { got = run_length 4096 128 ∷ run_length 4095 65536 ∷ run_length 0 65535 ∷ []; want = 53 ∷ 533 ∷ 532 ∷ [] }
    ∷ record { got = finds (seal_run_checks 1 4 32 16 0 127 159 20); want = 7 ∷ 0 ∷ [] }  -- 20 words for no whole block, and 21
    ∷ record { got = finds (seal_run_checks 1 4 32 16 0 127 159 21); want = 0 ∷ 0 ∷ [] }
    ∷ record { got = finds (open_run_checks 2 12 32 16 4096 160 128 52); want = 7 ∷ 0 ∷ [] }  -- 52 words for a header of 32 blocks
    ∷ record { got = (seal_run_call 2 4 (zeros 32) (zeros 16) [] [] (nines 33) (zeros 21)).1.0; want = new_mro ++ (9 ∷ []) }  -- the empty message sealed from a run, MRO with four rounds
    ∷ record { got = drop 21 (seal_run_call 1 4 (zeros 32) (zeros 16) [] [] (zeros 32) (zeros 21 ++ (5 ∷ 6 ∷ []))).1.1; want = 5 ∷ 6 ∷ [] }  -- what lies behind the run
    ∷ record { got = opened_by_run 1 new_opp_parcel; want = 0 ∷ 3 ∷ 0 ∷ 1 ∷ 2 ∷ 9 ∷ [] }  -- opened from a run: the answer and the output
    ∷ record { got = opened_by_run 2 (set new_mro_parcel 34 0); want = 9 ∷ 0 ∷ 0 ∷ 0 ∷ 0 ∷ 9 ∷ [] }  -- refused with 9, where the tag's last byte differs
    -- ---- card 7: what is broken in the store
    ∷ record { got = map (λ n. cond (is_length n) 1 0) (0 ∷ 63 ∷ 64 ∷ 127 ∷ 128 ∷ 129 ∷ 192 ∷ 65472 ∷ 65535 ∷ 65536 ∷ 65537 ∷ 65600 ∷ []); want = 0 ∷ 0 ∷ 0 ∷ 0 ∷ 1 ∷ 0 ∷ 1 ∷ 1 ∷ 0 ∷ 1 ∷ 0 ∷ 0 ∷ [] }  -- the lengths of a store, 1, and others, 0
    ∷ record { got = broken_by (zeros 64); want = 18 ∷ 0 ∷ [] }  -- one cell alone,
    ∷ record { got = broken_by (nines 129); want = 18 ∷ 0 ∷ [] }  -- and a byte too many before all else
    ∷ record { got = broken_by (set (fresh 3) 0 3); want = 19 ∷ 0 ∷ [] }  -- an index past the last cell: the first sale's,
    ∷ record { got = broken_by (set (fresh 3) 2 3); want = 19 ∷ 0 ∷ [] }  -- the first free one,
    ∷ record { got = broken_by (set (fresh 3) 64 3); want = 19 ∷ 1 ∷ [] }  -- and one that cell 1 holds
    ∷ record { got = broken_by (set (fresh 3) 64 1); want = 19 ∷ 1 ∷ [] }  -- a cell reached twice: by itself,
    ∷ record { got = broken_by (set (fresh 3) 128 1); want = 19 ∷ 2 ∷ [] }  -- by a ring,
    ∷ record { got = broken_by (set (one_sold 3) 128 1); want = 19 ∷ 2 ∷ [] }  -- by a free cell that names a sale,
    ∷ record { got = broken_by (set (one_sold 3) 2 1); want = 19 ∷ 0 ∷ [] }  -- and by both heads
    ∷ record { got = broken_by (set (set (one_sold 3) 64 5) 2 5); want = 19 ∷ 1 ∷ [] }  -- both chains broken: the sales' first,
    ∷ record { got = broken_by (set (set (two_sales 4) 64 2) 2 9); want = 19 ∷ 1 ∷ [] }  -- a ring there too before an index past the end among the free
    ∷ record { got = broken_by (set (set (fresh 3) 66 1) 128 3); want = 19 ∷ 2 ∷ [] }  -- an index before a kind of a cell below,
    ∷ record { got = broken_by (set (set (one_sold 3) 66 0) 128 3); want = 19 ∷ 2 ∷ [] }  -- and of the free before a kind of the sales
    ∷ record { got = broken_by (set (fresh 3) 130 1); want = 20 ∷ 2 ∷ [] }  -- kind 1 among the free,
    ∷ record { got = broken_by (set (one_sold 3) 66 0); want = 20 ∷ 1 ∷ [] }  -- 0 and 3 among the sales
    ∷ record { got = broken_by (set (one_sold 3) 66 3); want = 20 ∷ 1 ∷ [] }
    ∷ record { got = broken_by (set (fresh 4) 64 0); want = 20 ∷ 2 ∷ [] }  -- cells in neither chain: the first of two
    ∷ record { got = broken_by (set (set (fresh 4) 64 3) 194 1); want = 20 ∷ 2 ∷ [] }  -- a missing cell before a kind above it,
    ∷ record { got = broken_by (set (set (fresh 4) 64 3) 66 1); want = 20 ∷ 1 ∷ [] }  -- a kind before a missing cell above it
    ∷ record { got = broken_by (set (set (fresh 4) 130 9) 194 9); want = 20 ∷ 2 ∷ [] }  -- of two kinds the lower cell's: among the free,
    ∷ record { got = broken_by (set (set (two_sales 4) 66 0) 130 0); want = 20 ∷ 1 ∷ [] }  -- among the sales, chained downward,
    ∷ record { got = broken_by (set (set (one_sold 3) 66 0) 130 1); want = 20 ∷ 1 ∷ [] }  -- a sale's below a free cell's,
    ∷ record { got = broken_by (set (set (set (fresh 3) 0 2) 64 0) 66 1); want = 20 ∷ 1 ∷ [] }  -- and a free cell's below a sale's
    ∷ record { got = finds (take_checks (zeros 32) (paid 1) (set (one_sold 2) 64 2)); want = 19 ∷ 1 ∷ [] }  -- 19 before 16 and 15,
    ∷ record { got = finds (total_checks sample_key (set (two_sales 3) 66 0)); want = 20 ∷ 1 ∷ [] }  -- 20 before 9
    ∷ record { got = answered (cancel_call (zeros 32) 7 1 (set (one_sold 3) 64 3)); want = 19 ∷ 1 ∷ set (one_sold 3) 64 3 }  -- a call that would write: the answer and the store, unchanged
    -- ---- card 8: price shown and amount taken
    ∷ record { got = map (λ k. cond (kind_fits true k) 1 0) (tab (λ i. i) 256); want = 0 ∷ 1 ∷ 1 ∷ zeros 253 }  -- every kind byte among the sales, and among the free
    ∷ record { got = map (λ k. cond (kind_fits false k) 1 0) (tab (λ i. i) 256); want = 1 ∷ zeros 255 }
    ∷ record { got = broken_by (set (two_sales 4) 66 1); want = 0 ∷ 0 ∷ [] }  -- a store with sales of both kinds
    ∷ record { got = fields (stored_as (paid 1)); want = 7 ∷ 1 ∷ (zeros 8 ++ (150 ∷ 4 ∷ 1 ∷ 2 ∷ 148 ∷ 291 ∷ [])) }  -- a new sale, its record, and what the record's end says by the kind
    ∷ record { got = record_of (paid 1); want = 150 ∷ 0 ∷ 0 ∷ 0 ∷ 4 ∷ 0 ∷ 1 ∷ 148 ∷ 0 ∷ 0 ∷ 0 ∷ 35 ∷ 1 ∷ [] }
    ∷ record { got = detail_fields (detail_in 2 (record_of (paid 1))); want = 2 ∷ 148 ∷ 291 ∷ [] }
    ∷ record { got = detail_fields (detail_in 1 (record_of (paid 1))); want = 1 ∷ 148 ∷ 0 ∷ 0 ∷ 0 ∷ 35 ∷ 1 ∷ [] }
    ∷ record { got = told (Ok (amount_and_price (held_with 70000 (listed 4000000000 291)))); want = 2 ∷ 70000 ∷ 4000000000 ∷ [] }  -- a price above the amount, the same, and none
    ∷ record { got = told (Ok (amount_and_price (held_with 70000 (listed 70000 0)))); want = 2 ∷ 70000 ∷ 70000 ∷ [] }
    ∷ record { got = told (Ok (amount_and_price (held_with 70000 (clock (nines 6))))); want = 1 ∷ 70000 ∷ 9 ∷ [] }
    ∷ record { got = told (look_up_call sample_key 7 1 (store_of 2 sold_body)); want = 2 ∷ 150 ∷ 148 ∷ [] }  -- whole look-ups: amount and price,
    ∷ record { got = told (look_up_call sample_key 7 1 (store_of 2 zero_body)); want = 2 ∷ 150 ∷ 0 ∷ [] }  -- price 0,
    ∷ record { got = told (look_up_call sample_key 7 1 (store_of 1 zero_body)); want = 1 ∷ 150 ∷ 9 ∷ [] }  -- and no price for the same 61 bytes in a cell of kind 1:
    ∷ record { got = told_total (total_call sample_key (store_of 1 zero_body)); want = 0 ∷ 150 ∷ [] }  -- the kind byte is not sealed, and amount and total do not depend on it
    ∷ record { got = answered (cancel_call sample_key 7 1 (store_of 1 sold_body)); want = 0 ∷ 150 ∷ fresh 2 }
    ∷ record { got = told (look_up_call (zeros 31) 7 3 (zeros 64)); want = code 3 0 ∷ 8 ∷ 9 ∷ [] }  -- refused as cancel is: 3,
    ∷ record { got = told (look_up_call (zeros 32) 7 3 (set (two_sales 3) 66 3)); want = code 20 1 ∷ 8 ∷ 9 ∷ [] }  -- 20 before 16,
    ∷ record { got = told (look_up_call (zeros 32) 7 3 (two_sales 3)); want = code 16 0 ∷ 8 ∷ 9 ∷ [] }
    ∷ record { got = told (look_up_call sample_key 7 1 (two_sales 3)); want = code 9 1 ∷ 8 ∷ 9 ∷ [] }  -- and 9 with its cell
    ∷ record { got = told_total (total_call sample_key (set (fresh 2) 66 2)); want = code 20 1 ∷ 9 ∷ [] }  -- kind 2 among the free, as C gets it
    -- ---- card 9: why a parcel won't open
    ∷ record { got = map (λ s. bit s.old) sixteen; want = zeros 8 ++ tab (λ i. 1) 8 }  -- the sixteen settings: new start before old,
    ∷ record { got = map (λ s. s.mode) sixteen; want = 1 ∷ 1 ∷ 1 ∷ 1 ∷ 2 ∷ 2 ∷ 2 ∷ 2 ∷ 1 ∷ 1 ∷ 1 ∷ 1 ∷ 2 ∷ 2 ∷ 2 ∷ 2 ∷ [] }  -- OPP before MRO,
    ∷ record { got = map (λ s. s.rounds) sixteen; want = 4 ∷ 6 ∷ 8 ∷ 12 ∷ 4 ∷ 6 ∷ 8 ∷ 12 ∷ 4 ∷ 6 ∷ 8 ∷ 12 ∷ 4 ∷ 6 ∷ 8 ∷ 12 ∷ [] }  -- rounds 4, 6, 8, 12
    ∷ record {
      got = map (λ n. reason (Ok (reason_for (only n) (setting false 1 4)))) (tab (λ i. i) 17);
      want = 0 ∷ 130 ∷ 131 ∷ 132 ∷ 69 ∷ 198 ∷ 199 ∷ 200 ∷ 41 ∷ 170 ∷ 171 ∷ 172 ∷ 109 ∷ 238 ∷ 239 ∷ 240 ∷ 255 ∷ [];
    }  -- the first setting asked, where each of them alone opens the parcel, and none,
    ∷ record {
      got = map (λ n. reason (Ok (reason_for (only n) (setting true 2 12)))) (tab (λ i. i) 17);
      want = 225 ∷ 226 ∷ 227 ∷ 100 ∷ 165 ∷ 166 ∷ 167 ∷ 40 ∷ 201 ∷ 202 ∷ 203 ∷ 76 ∷ 141 ∷ 142 ∷ 143 ∷ 0 ∷ 255 ∷ [];
    }  -- and the last
    ∷ record { got = map (λ n. reason (Ok (reason_for (λ s. true) (nth sixteen n)))) (tab (λ i. i) 16); want = zeros 16 }  -- where all open it, it opens as asked
    ∷ record { got = reason (Ok (reason_for (λ s. s.old) (setting false 1 4))) ∷ reason (Ok (reason_for (λ s. eqb s.mode 2) (setting true 1 6))) ∷ reason (Ok (reason_for (λ s. eqb s.rounds 12) (setting true 2 8))) ∷ []; want = 41 ∷ 229 ∷ 228 ∷ [] }  -- where several do, the first of them is named
    ∷ record { got = map (λ s. cond (opens_under (zeros 32) (zeros 16) [] new_opp s) 1 0) (setting false 1 4 ∷ setting true 1 4 ∷ setting false 2 4 ∷ []); want = 1 ∷ 0 ∷ 0 ∷ [] }  -- the empty message's parcel opens under its own setting, and not under the other start or mode
    ∷ record { got = reason (diagnose_call true 0 5 (zeros 31) (zeros 15) (zeros 4097) []) ∷ reason (diagnose_call true 1 5 (zeros 31) (zeros 15) (zeros 4097) []) ∷ reason (diagnose_call true 1 4 (zeros 31) (zeros 15) (zeros 4097) []) ∷ []; want = code 1 0 ∷ code 2 0 ∷ code 3 0 ∷ [] }  -- refused: 1, 2, 3,
    ∷ record { got = reason (diagnose_call true 1 4 (zeros 32) (zeros 15) (zeros 4097) []) ∷ reason (diagnose_call true 1 4 (zeros 32) (zeros 16) (zeros 4097) []) ∷ reason (diagnose_call true 1 4 (zeros 32) (zeros 16) [] (zeros 31)) ∷ []; want = code 4 0 ∷ code 5 0 ∷ code 8 0 ∷ [] }  -- 4, 5, 8
    ∷ []

-- row i of the table
unfoldable pub row_at : ℕ → Row
row_at i = get_or table i (record { got = []; want = [] })

-- each row of the table holds: what the definitions give is what it must be
pub record KnownAnswers : Type 0 where
  pub row : (i : ℕ) → i < length table → (row_at i).got ≡ (row_at i).want
  -- P10 and P11 with every count of rounds, over the section 4 start
  pub zero-tags : (rounds : ℕ) → (sealed_old 1 rounds [] ≡ zeros 32) × (sealed_old 2 rounds [] ≡ zeros 32)
  pub zero-parcel : (rounds : ℕ) → sealed_old 1 rounds (zeros 128) ≡ zeros 160
