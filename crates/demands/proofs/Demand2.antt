-- Demand 2 holds. Assumes nothing.
use mathlib.Core.Path.{◌≡◌, refl, sym, ap, ◌∙◌, subst}
use mathlib.Core.Bool.{Bool, true, false, false≢true}
use mathlib.Core.Logic.{inl, inr}
use mathlib.Core.List.{List, [], ◌++◌, append-nil}
use Prim.Native.Nat.{ℕ, ◌+◌, ◌-◌, ◌≤◌}
use native.Mathlib.Omega.{arith}
use lib.ListN.{length, drop, drop_of_length-le}
use borrow.Author.Tests.{le-ltb}
use Rattle.words.specs.Sequence.{zeros}
use Rattle.words.specs.Block.{Block, Bytes}
use Rattle.words.proofs.Lists.{length-tab}
use Rattle.answers.specs.Answers.{line_at, line, room, checked, clear, Answer}
use Rattle.answers.proofs.Values.{passed_on}
use Rattle.mem.specs.Mem.{start_of, old_start_of}
use Rattle.mem.proofs.Laws.{start-block, old-start-block}
use Rattle.blockplan.specs.Parcel.{Mode, parcel_of, message_of, genuine, opened}
use Rattle.blockplan.specs.Lawful.{Lawful}
use Rattle.blockplan.proofs.Parcels.{parcel-long, parcel-bytes, parcel-message, parcel-genuine, message-long, message-bytes, message-parcel}
use Rattle.checks.specs.Checks.{seal_checks, open_checks}
use Rattle.checks.proofs.Clears.{seal-after, open_after, open-inputs, parcel-inputs, message-inputs}
use Rattle.modes.specs.Modes.{mode_of}
use Rattle.modes.proofs.Lawful.{mode-lawful}
use Rattle.sealing.specs.Sealing.{verdict, seal_from, open_from, seal_call, open_call, open_old_call}
use Rattle.demands.specs.Demand2.{Sealable, Openable, Seals, Opens, Refuses, HandsBack, Exactly, Demand2}

pub length-zeros : (n : ℕ) → length (zeros n) ≡ n
unfolding zeros
length-zeros n = length-tab (λ i. 0) n

-- room where there is room
pub roomy : (needed lent : ℕ) → needed ≤ lent → room needed lent clear ≡ clear
unfolding room line line_at
roomy needed lent h = rw (le-ltb lent needed h)

-- a start that is a block, for every round count
abbrev pub Blocks : (ℕ → List ℕ → List ℕ → List ℕ) → Type 0
Blocks start = (rounds : ℕ) (key nonce : List ℕ) → Bytes key → Bytes nonce → Block (start rounds key nonce)

module _ (start : ℕ → List ℕ → List ℕ → List ℕ) (is_block : Blocks start) (mode rounds : ℕ) (key nonce header : List ℕ) where
  unfoldable pub mode_under : Mode
  mode_under = mode_of mode rounds (start rounds key nonce)

  -- the mode is lawful for every round count: the allowed ones play no part
  law : Bytes key → Bytes nonce → Lawful mode_under
  unfolding mode_under
  law hk hn = mode-lawful mode rounds (start rounds key nonce) (is_block rounds key nonce hk hn)

  pub seals : (message : List ℕ) → Sealable mode rounds key nonce header message → Seals (seal_from start) mode rounds key nonce header message (parcel_of mode_under header message)
  unfolding mode_under seal_from seal_checks checked
  seals message 𝓜 out h = rw (passed_on _ _ (seal-after _ _ _ _ _ _ (room (length message + 32) (length out) clear)) 𝓜.clear, roomy (length message + 32) (length out) h)

  module _ (parcel : List ℕ) (𝓟 : Openable mode rounds key nonce header parcel) where
    pub inputs : (32 ≤ length parcel) × (length parcel ≤ 65568)
    inputs = (open-inputs _ _ _ _ _ _ 𝓟.clear).1

    pub law-here : Lawful mode_under
    law-here = law 𝓟.key-bytes 𝓟.nonce-bytes

    pub long : length (message_of mode_under parcel) ≡ length parcel - 32
    long = message-long mode_under law-here header parcel inputs.0

    answers : (out : List ℕ) → length parcel - 32 ≤ length out
        → open_from start mode rounds key nonce header parcel out ≡ verdict (length parcel - 32) (opened mode_under header parcel out)
    unfolding mode_under open_from open_checks checked
    answers out h = rw (passed_on _ _ (open_after _ _ _ _ _ _ (room (length parcel - 32) (length out) clear)) 𝓟.clear, roomy (length parcel - 32) (length out) h)

    pub opens : genuine mode_under header parcel ≡ true → Opens (open_from start) mode rounds key nonce header parcel (message_of mode_under parcel)
    unfolding verdict opened
    opens e out h = answers out (subst (λ (k : ℕ). k ≤ length out) long h) ∙ rw (e, long)

    pub refuses : genuine mode_under header parcel ≡ false → Refuses (open_from start) mode rounds key nonce header parcel
    unfolding verdict opened
    refuses e out h = answers out h ∙ rw e

    pub message-is : Sealable mode rounds key nonce header (message_of mode_under parcel)
    message-is = record {
      clear = rw long (message-inputs _ _ _ _ _ (length parcel) 𝓟.clear);
      key-bytes = 𝓟.key-bytes;
      nonce-bytes = 𝓟.nonce-bytes;
      bytes = message-bytes mode_under law-here header parcel 𝓟.bytes;
    }

  module _ (message : List ℕ) (𝓜 : Sealable mode rounds key nonce header message) where
    pub law-there : Lawful mode_under
    law-there = law 𝓜.key-bytes 𝓜.nonce-bytes

    pub parcel-is : Openable mode rounds key nonce header (parcel_of mode_under header message)
    parcel-is = record {
      clear = rw (parcel-long mode_under law-there header message) (parcel-inputs _ _ _ _ _ (length message) 𝓜.clear);
      key-bytes = 𝓜.key-bytes;
      nonce-bytes = 𝓜.nonce-bytes;
      bytes = parcel-bytes mode_under law-there header message 𝓜.bytes;
    }

    pub parcel-opens : Opens (open_from start) mode rounds key nonce header (parcel_of mode_under header message) message
    parcel-opens =
        subst (Opens (open_from start) mode rounds key nonce header (parcel_of mode_under header message)) (parcel-message mode_under law-there header message 𝓜.bytes)
        (opens (parcel_of mode_under header message) parcel-is (parcel-genuine mode_under law-there header message 𝓜.bytes))

    hands-back : HandsBack (seal_from start) (open_from start) mode rounds key nonce header message
    hands-back = (parcel_of mode_under header message, parcel-is, seals message 𝓜, parcel-opens)

    -- seal writes one parcel for a message
    pub one-parcel : (parcel : List ℕ) → Seals (seal_from start) mode rounds key nonce header message parcel → parcel ≡ parcel_of mode_under header message
    one-parcel parcel e =
        let n = length message + 32 in
        let room : n ≤ length (zeros n) = omega (arith, length-zeros n) in
        let rest : drop n (zeros n) ≡ [] = drop_of_length-le (zeros n) {i = n} (omega (arith, length-zeros n)) in
        let alike : parcel ++ drop n (zeros n) ≡ parcel_of mode_under header message ++ drop n (zeros n)
        = ap (λ (r : Answer × List ℕ). r.1) (sym (e (zeros n) room) ∙ seals message 𝓜 (zeros n) room) in
        sym (append-nil parcel) ∙ (rw rest at alike) ∙ append-nil (parcel_of mode_under header message)

  by-tag : (parcel : List ℕ) → Openable mode rounds key nonce header parcel → (t : Bool) → genuine mode_under header parcel ≡ t → Exactly (seal_from start) (open_from start) mode rounds key nonce header parcel
  by-tag parcel 𝓟 true e =
      inl (
        message_of mode_under parcel,
        message-is parcel 𝓟,
        subst (Seals (seal_from start) mode rounds key nonce header (message_of mode_under parcel)) (message-parcel mode_under (law-here parcel 𝓟) header parcel 𝓟.bytes e)
            (seals (message_of mode_under parcel) (message-is parcel 𝓟)),
        opens parcel 𝓟 e,
      )
  by-tag parcel 𝓟 false e =
      inr (
        (λ message 𝓜 s. false≢true
            (sym e ∙ ap (genuine mode_under header) (one-parcel message 𝓜 parcel s) ∙ parcel-genuine mode_under (law-there message 𝓜) header message 𝓜.bytes)),
        refuses parcel 𝓟 e,
      )

-- for every start that is a block
for-start : (start : ℕ → List ℕ → List ℕ → List ℕ) → Blocks start → Demand2 (seal_from start) (open_from start)
for-start start is_block = record {
  hands-back = λ mode rounds key nonce header message 𝓜. hands-back start is_block mode rounds key nonce header message 𝓜;
  exactly = λ mode rounds key nonce header parcel 𝓟. by-tag start is_block mode rounds key nonce header parcel 𝓟 _ refl;
}

-- of the calls
pub demand2 : Demand2 seal_call open_call
unfolding seal_call open_call
demand2 = for-start start_of start-block

-- of the call for the section 4 start, over that start's sealing
pub demand2-old : Demand2 (seal_from old_start_of) open_old_call
unfolding open_old_call
demand2-old = for-start old_start_of old-start-block
