-- Convert does what card 5 says, over the calls that seal and open. Assumes nothing.
use mathlib.Core.Path.{◌≡◌, refl, sym, ap, ◌∙◌, subst}
use mathlib.Core.Bool.{Bool, true, false, true≢false, false≢true}
use mathlib.Core.Logic.{◌⊎◌, inl, inr, ⊎_elim, ⊎_map}
use mathlib.Core.List.{List}
use Prim.Native.Nat.{ℕ, ◌+◌, ◌-◌, ◌≤◌}
use native.Mathlib.Omega.{arith}
use lib.ListN.{length, take, drop}
use lib.Seq.{take_at}
use Rattle.words.specs.Sequence.{zeros}
use Rattle.std.specs.Prelude.{Err}
use Rattle.answers.specs.Refusals.{refusal}
use Rattle.answers.specs.Answers.{value_of, room, checked, clear, Answer}
use Rattle.answers.proofs.Values.{is_done, passed_on, checked-unchanged}
use Rattle.answers.specs.declared.Ground.{Ground}
use Rattle.answers.specs.declared.Ground.TheVariants.{TagDiffers, DoneAlready}
use Rattle.mem.specs.Mem.{start_of, old_start_of}
use Rattle.mem.proofs.Laws.{start-block, old-start-block}
use Rattle.blockplan.specs.Parcel.{Mode, parcel_of, message_of, genuine}
use Rattle.blockplan.proofs.Parcels.{parcel-long}
use Rattle.checks.specs.Checks.{seal_checks, convert_checks}
use Rattle.checks.proofs.Clears.{seal-after, open_after}
use Rattle.sealing.specs.Sealing.{seal_from, open_from, seal_call, open_call, open_old_call}
use Rattle.converting.specs.Converting.{converted, convert_call}
use Rattle.converting.proofs.Answered.{converted-where, done-where, neither-where}
use Rattle.demands.specs.Demand2.{Sealable, Openable, Seals, Opens}
use Rattle.demands.specs.Conversion.{SealsAgain, OpensConverted, Opened, Unopened, RefusesUnchanged, OneOfThree, Conversion}
use Rattle.demands.proofs.Demand2.{length-zeros, roomy, Blocks, mode_under, seals, inputs, long, opens, refuses, message-is, law-there, parcel-is, one-parcel, parcel-opens}

-- ---- a parcel that opens is genuine, and holds that message

module _ (start : ℕ → List ℕ → List ℕ → List ℕ) (is_block : Blocks start) (mode rounds : ℕ) (key nonce header parcel : List ℕ)
    (𝓟 : Openable mode rounds key nonce header parcel) where
  abbrev here : Mode
  here = mode_under start is_block mode rounds key nonce header

  -- an output with room for that message and for the parcel's own
  abbrev wide : List ℕ → List ℕ
  wide message = zeros (length message + length parcel)

  by-tag : (message : List ℕ) → Opens (open_from start) mode rounds key nonce header parcel message → (t : Bool) → genuine here header parcel ≡ t
      → (genuine here header parcel ≡ true) × (message_of here parcel ≡ message)
  by-tag message o true e =
      let out = wide message in
      let held = message_of here parcel in
      let far : length held ≡ length parcel - 32 = long start is_block mode rounds key nonce header parcel 𝓟 in
      let alike = sym (opens start is_block mode rounds key nonce header parcel 𝓟 e out (omega (arith, length-zeros (length message + length parcel), far)))
      ∙ o out (omega (arith, length-zeros (length message + length parcel))) in
      let same : length held ≡ length message = ap (λ (r : Answer × List ℕ). value_of r.0) alike in (
        e,
        sym (take_at held (drop (length held) out) (length held) refl) ∙ ap (λ (r : Answer × List ℕ). take (length held) r.1) alike
            ∙ take_at message (drop (length message) out) (length held) (sym same),
      )
  by-tag message o false e =
      let out = wide message in
      absurd (true≢false (ap (λ (r : Answer × List ℕ). is_done r.0)
      (sym (o out (omega (arith, length-zeros (length message + length parcel))))
      ∙ refuses start is_block mode rounds key nonce header parcel 𝓟 e out (omega (arith, length-zeros (length message + length parcel))))))

  pub opened-is : (message : List ℕ) → Opens (open_from start) mode rounds key nonce header parcel message
      → (genuine here header parcel ≡ true) × (message_of here parcel ≡ message)
  opened-is message o = by-tag message o _ refl

  -- and one of which no message comes is not genuine
  pub unopened-is : Unopened mode rounds key nonce header (open_from start) parcel → genuine here header parcel ≡ false
  unopened-is unopened = decided _ refl
    where
      decided : (t : Bool) → genuine here header parcel ≡ t → genuine here header parcel ≡ false
      decided true e = absurd (unopened (message_of here parcel, opens start is_block mode rounds key nonce header parcel 𝓟 e))
      decided false e = e

  -- one or the other, by the tag
  opens-or-not : Opened mode rounds key nonce header (open_from start) parcel ⊎ Unopened mode rounds key nonce header (open_from start) parcel
  opens-or-not = decided _ refl
    where
      decided : (t : Bool) → genuine here header parcel ≡ t → Opened mode rounds key nonce header (open_from start) parcel ⊎ Unopened mode rounds key nonce header (open_from start) parcel
      decided true e = inl (message_of here parcel, opens start is_block mode rounds key nonce header parcel 𝓟 e)
      decided false e = inr (λ o. false≢true (sym e ∙ (opened-is o.0 o.1).0))

-- ---- what convert answers

module _ (mode rounds : ℕ) (key nonce header : List ℕ) where
  -- the mode under each start
  abbrev old : Mode
  old = mode_under old_start_of old-start-block mode rounds key nonce header

  abbrev new : Mode
  new = mode_under start_of start-block mode rounds key nonce header

  module _ (parcel : List ℕ) (𝓟 : Openable mode rounds key nonce header parcel) where
    -- where open refuses on no ground but 9, the room decides first
    answers : (out : List ℕ) → convert_call mode rounds key nonce header parcel out ≡ checked (room (length parcel) (length out) clear) out (converted old new header parcel out)
    unfolding mode_under convert_call convert_checks
    answers out = rw (passed_on _ _ (open_after _ _ _ _ _ _ (room (length parcel) (length out) clear)) 𝓟.clear)

    convert-is : (out : List ℕ) → length parcel ≤ length out → convert_call mode rounds key nonce header parcel out ≡ converted old new header parcel out
    unfolding checked
    convert-is out h = answers out ∙ rw (roomy (length parcel) (length out) h)

    -- the parcel's message is sealed again
    held-sealed-again : genuine old header parcel ≡ true → SealsAgain mode rounds key nonce header parcel (message_of old parcel)
    unfolding mode_under seal_call seal_from seal_checks
    held-sealed-again e out =
        let held = message_of old parcel in
        let sealable = message-is old_start_of old-start-block mode rounds key nonce header parcel 𝓟 in
        let far : length held ≡ length parcel - 32 = long old_start_of old-start-block mode rounds key nonce header parcel 𝓟 in
        let wide : 32 ≤ length parcel = (inputs old_start_of old-start-block mode rounds key nonce header parcel 𝓟).0 in
        let same : length held + 32 ≡ length parcel = omega (arith, far, wide) in
        answers out ∙ rw (passed_on _ _ (seal-after _ _ _ _ _ _ (room (length held + 32) (length out) clear)) sealable.clear, same)
        (ap (checked (room (length parcel) (length out) clear) out) (sym (converted-where old new header parcel out _ e refl)))

    converts : (message : List ℕ) → Opens open_old_call mode rounds key nonce header parcel message → SealsAgain mode rounds key nonce header parcel message
    unfolding open_old_call
    converts message o =
        let held = opened-is old_start_of old-start-block mode rounds key nonce header parcel 𝓟 message o in
        subst (SealsAgain mode rounds key nonce header parcel) held.1 (held-sealed-again held.0)

    not-genuine-old : Unopened mode rounds key nonce header open_old_call parcel → genuine old header parcel ≡ false
    unfolding open_old_call
    not-genuine-old unopened = unopened-is old_start_of old-start-block mode rounds key nonce header parcel 𝓟 unopened

    done-already : Unopened mode rounds key nonce header open_old_call parcel → Opened mode rounds key nonce header open_call parcel
        → RefusesUnchanged mode rounds key nonce header DoneAlready parcel
    unfolding open_call
    done-already unopened o out h =
        convert-is out h
        ∙ sym (done-where old new header parcel out (not-genuine-old unopened) (opened-is start_of start-block mode rounds key nonce header parcel 𝓟 o.0 o.1).0)

    neither : Unopened mode rounds key nonce header open_old_call parcel → Unopened mode rounds key nonce header open_call parcel → RefusesUnchanged mode rounds key nonce header TagDiffers parcel
    unfolding open_call
    neither unopened unopened-new out h =
        convert-is out h
        ∙ sym (neither-where old new header parcel out (not-genuine-old unopened) (unopened-is start_of start-block mode rounds key nonce header parcel 𝓟 unopened-new))

    one_of_three : OneOfThree mode rounds key nonce header parcel
    unfolding open_call open_old_call
    one_of_three = record {
      converts = converts;
      done-already = done-already;
      neither = neither;
      cases = ⊎_elim inl
          (λ unopened. inr (⊎_map (λ o. (unopened, o)) (λ u. (unopened, u)) (opens-or-not start_of start-block mode rounds key nonce header parcel 𝓟)))
          (opens-or-not old_start_of old-start-block mode rounds key nonce header parcel 𝓟);
    }

  -- ---- what the old start's sealing made

  module _ (message parcel : List ℕ) (𝓜 : Sealable mode rounds key nonce header message) (s : Seals (seal_from old_start_of) mode rounds key nonce header message parcel) where
    parcel-of-old : parcel ≡ parcel_of old header message
    parcel-of-old = one-parcel old_start_of old-start-block mode rounds key nonce header message 𝓜 parcel s

    openable : Openable mode rounds key nonce header parcel
    openable = subst (Openable mode rounds key nonce header) (sym parcel-of-old) (parcel-is old_start_of old-start-block mode rounds key nonce header message 𝓜)

    seals-again : SealsAgain mode rounds key nonce header parcel message
    unfolding open_old_call
    seals-again =
        converts parcel openable message
        (subst (λ (p : List ℕ). Opens (open_from old_start_of) mode rounds key nonce header p message) (sym parcel-of-old) (parcel-opens old_start_of old-start-block mode rounds key nonce header message 𝓜))

    opens-converted : OpensConverted mode rounds key nonce header parcel message
    unfolding seal_call open_call
    opens-converted =
        let sealed = parcel_of new header message in
        let law-old = law-there old_start_of old-start-block mode rounds key nonce header message 𝓜 in
        let law-new = law-there start_of start-block mode rounds key nonce header message 𝓜 in
        let far : length parcel ≡ length message + 32 = ap length parcel-of-old ∙ parcel-long old law-old header message in (
          sealed,
          parcel-long new law-new header message ∙ sym far,
          (λ out h. seals-again out ∙ rw far (seals start_of start-block mode rounds key nonce header message 𝓜 out (omega (arith, far)))),
          parcel-opens start_of start-block mode rounds key nonce header message 𝓜,
        )

-- ---- a refusal changes nothing

-- convert's work and its checks, where each leaves the output as it was
ways-unchanged : (old new : Mode) (header parcel out : List ℕ) (g : Ground) (at : ℕ) (s t : Bool) → genuine old header parcel ≡ s → genuine new header parcel ≡ t
    → (converted old new header parcel out).0 ≡ Err (refusal g at) → (converted old new header parcel out).1 ≡ out
ways-unchanged old new header parcel out g at true t e q r =
    absurd (true≢false (ap is_done (ap (λ (x : Answer × List ℕ). x.0) (converted-where old new header parcel out _ e refl) ∙ r)))
ways-unchanged old new header parcel out g at false true e q r = sym (ap (λ (x : Answer × List ℕ). x.1) (done-where old new header parcel out e q))
ways-unchanged old new header parcel out g at false false e q r = sym (ap (λ (x : Answer × List ℕ). x.1) (neither-where old new header parcel out e q))

pub conversion : Conversion
unfolding convert_call
conversion = record {
  converts-sealed = λ mode rounds key nonce header message parcel 𝓜 s.
      (seals-again mode rounds key nonce header message parcel 𝓜 s, opens-converted mode rounds key nonce header message parcel 𝓜 s);
  one_of_three = λ mode rounds key nonce header parcel 𝓟. one_of_three mode rounds key nonce header parcel 𝓟;
  unchanged = λ mode rounds key nonce header parcel out g at e. checked-unchanged _ out _ (refusal g at) (ways-unchanged _ _ header parcel out g at _ _ refl refl) e;
}
