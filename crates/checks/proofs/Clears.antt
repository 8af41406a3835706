-- Laws of the checks of seal, open and convert: the checks behind, what holds where all are clear, and that their places are 0. Assumes nothing.
use mathlib.Core.Path.{◌≡◌, sym, ◌∙◌}
use mathlib.Core.Bool.{true, not}
use Prim.Native.Nat.{ℕ, ◌+◌, ◌-◌, ◌≤◌, ◌<◌}
use native.Mathlib.Omega.{arith}
use lib.Dec.{eqb, ltb}
use borrow.Author.Tests.{not-false, eqb-true, ltb-false, le-ltb}
use Rattle.answers.specs.Answers.{line_at, line, room, Check, clear}
use Rattle.answers.specs.declared.Ground.TheVariants.{ModeNumber, Rounds, KeyLength, NonceLength, HeaderLength, InputLength, OutputLength, TagMissing}
use Rattle.answers.proofs.Values.{place_of, line_at-lt, after, line_after, line_clear, after-clear, passed_on, room-clear}
use Rattle.checks.specs.Checks.{is_mode, is_rounds, settings, seal_inputs, open_inputs, seal_checks, open_checks, convert_checks}

-- the place of a buffer that is too short is 0
pub room-place : (needed lent n : ℕ) → 0 < n → place_of (room needed lent clear) < n
unfolding room line
room-place needed lent n z = line_at-lt n (ltb lent needed) OutputLength 0 clear (λ t. z) (λ t. z)

module _ (mode rounds key nonce header : ℕ) where
  -- the checks behind decide where those of the settings are clear
  pub settings-after : (next : Check) → settings mode rounds key nonce header next ≡ after (settings mode rounds key nonce header clear) next
  unfolding settings after
  settings-after next = simp (← line_after)

  settings-clear : (next : Check) → settings mode rounds key nonce header next ≡ clear → (settings mode rounds key nonce header clear ≡ clear) × (next ≡ clear)
  settings-clear next e = after-clear (settings mode rounds key nonce header clear) next (sym (settings-after next) ∙ e)

  settings-lengths : settings mode rounds key nonce header clear ≡ clear → (key ≡ 32) × (nonce ≡ 16)
  unfolding settings
  settings-lengths e =
      let a = line_clear (not (is_mode mode)) ModeNumber _ e in
      let b = line_clear (not (is_rounds rounds)) Rounds _ a.1 in
      let c = line_clear (not (eqb key 32)) KeyLength _ b.1 in
      let d = line_clear (not (eqb nonce 16)) NonceLength _ c.1 in
      (eqb-true key 32 (not-false (eqb key 32) c.0), eqb-true nonce 16 (not-false (eqb nonce 16) d.0))

  -- ---- seal

  module _ (message : ℕ) where
    pub seal-after : (next : Check) → seal_inputs mode rounds key nonce header message next ≡ after (seal_inputs mode rounds key nonce header message clear) next
    unfolding seal_inputs settings after
    seal-after next = simp (← line_after)

    pub seal-inputs : seal_inputs mode rounds key nonce header message clear ≡ clear
        → (settings mode rounds key nonce header clear ≡ clear) × (message ≤ 65536)
    unfolding seal_inputs
    seal-inputs e =
        let s = settings-clear _ e in
        (s.0, ltb-false 65536 message (line_clear (ltb 65536 message) InputLength clear s.1).0)

    -- what the work of seal may count on
    pub seal-clear : (out : ℕ) → seal_checks mode rounds key nonce header message out ≡ clear
        → ((key ≡ 32) × (nonce ≡ 16)) × ((message ≤ 65536) × (message + 32 ≤ out))
    unfolding seal_checks
    seal-clear out e =
        let a = after-clear _ _ (sym (seal-after (room (message + 32) out clear)) ∙ e) in
        let i = seal-inputs a.0 in
        (settings-lengths i.0, (i.1, (room-clear (message + 32) out clear a.1).0))

  -- ---- open

  module _ (parcel : ℕ) where
    pub open_after : (next : Check) → open_inputs mode rounds key nonce header parcel next ≡ after (open_inputs mode rounds key nonce header parcel clear) next
    unfolding open_inputs settings after
    open_after next = simp (← line_after)

    pub open-inputs : open_inputs mode rounds key nonce header parcel clear ≡ clear
        → (settings mode rounds key nonce header clear ≡ clear) × ((32 ≤ parcel) × (parcel ≤ 65568))
    unfolding open_inputs
    open-inputs e =
        let s = settings-clear _ e in
        let t = line_clear (ltb parcel 32) TagMissing _ s.1 in
        (s.0, (ltb-false parcel 32 t.0, ltb-false 65568 parcel (line_clear (ltb 65568 parcel) InputLength clear t.1).0))

    -- what the judgement of a parcel may count on
    pub parcel-clear : open_inputs mode rounds key nonce header parcel clear ≡ clear → ((key ≡ 32) × (nonce ≡ 16)) × (32 ≤ parcel)
    parcel-clear e = let i = open-inputs e in (settings-lengths i.0, i.1.0)

    -- the mode and the round count are allowed ones
    pub inputs-settings : open_inputs mode rounds key nonce header parcel clear ≡ clear → (is_mode mode ≡ true) × (is_rounds rounds ≡ true)
    unfolding open_inputs settings
    inputs-settings e =
        let a = line_clear (not (is_mode mode)) ModeNumber _ e in
        let b = line_clear (not (is_rounds rounds)) Rounds _ a.1 in
        (not-false (is_mode mode) a.0, not-false (is_rounds rounds) b.0)

    -- another mode and another allowed count pass as well
    pub other-inputs : (m n : ℕ) → is_mode m ≡ true → is_rounds n ≡ true → open_inputs mode rounds key nonce header parcel clear ≡ clear
        → open_inputs m n key nonce header parcel clear ≡ clear
    unfolding open_inputs settings line line_at
    other-inputs m n hm hn e =
        let a = line_clear (not (is_mode mode)) ModeNumber _ e in
        let b = line_clear (not (is_rounds rounds)) Rounds _ a.1 in
        rw (hm, hn) b.1

    -- what the work of open may count on
    pub open-clear : (out : ℕ) → open_checks mode rounds key nonce header parcel out ≡ clear
        → ((key ≡ 32) × (nonce ≡ 16)) × (((32 ≤ parcel) × (parcel ≤ 65568)) × (parcel - 32 ≤ out))
    unfolding open_checks
    open-clear out e =
        let a = after-clear _ _ (sym (open_after (room (parcel - 32) out clear)) ∙ e) in
        let i = open-inputs a.0 in
        (settings-lengths i.0, (i.1, (room-clear (parcel - 32) out clear a.1).0))

    -- what the work of convert may count on
    pub convert-clear : (out : ℕ) → convert_checks mode rounds key nonce header parcel out ≡ clear
        → ((key ≡ 32) × (nonce ≡ 16)) × (((32 ≤ parcel) × (parcel ≤ 65568)) × (parcel ≤ out))
    unfolding convert_checks
    convert-clear out e =
        let a = after-clear _ _ (sym (open_after (room parcel out clear)) ∙ e) in
        let i = open-inputs a.0 in
        (settings-lengths i.0, (i.1, (room-clear parcel out clear a.1).0))

  -- ---- their places are 0

  settings-place : (n : ℕ) (next : Check) → 0 < n → place_of next < n → place_of (settings mode rounds key nonce header next) < n
  unfolding settings line
  settings-place n next z h =
      line_at-lt n (not (is_mode mode)) ModeNumber 0 _ (λ t. z)
      (λ a. line_at-lt n (not (is_rounds rounds)) Rounds 0 _ (λ t. z)
      (λ b. line_at-lt n (not (eqb key 32)) KeyLength 0 _ (λ t. z)
      (λ c. line_at-lt n (not (eqb nonce 16)) NonceLength 0 _ (λ t. z)
      (λ d. line_at-lt n (ltb 4096 header) HeaderLength 0 next (λ t. z) (λ e. h)))))

  pub seal-place : (message out n : ℕ) → 0 < n → place_of (seal_checks mode rounds key nonce header message out) < n
  unfolding seal_checks seal_inputs line
  seal-place message out n z = settings-place n _ z (line_at-lt n (ltb 65536 message) InputLength 0 _ (λ t. z) (λ a. room-place (message + 32) out n z))

  pub parcel-place : (parcel n : ℕ) (next : Check) → 0 < n → place_of next < n → place_of (open_inputs mode rounds key nonce header parcel next) < n
  unfolding open_inputs line
  parcel-place parcel n next z h =
      settings-place n _ z (line_at-lt n (ltb parcel 32) TagMissing 0 _ (λ t. z) (λ a. line_at-lt n (ltb 65568 parcel) InputLength 0 next (λ t. z) (λ b. h)))

  pub open-place : (parcel out n : ℕ) → 0 < n → place_of (open_checks mode rounds key nonce header parcel out) < n
  unfolding open_checks
  open-place parcel out n z = parcel-place parcel n _ z (room-place (parcel - 32) out n z)

  pub convert-place : (parcel out n : ℕ) → 0 < n → place_of (convert_checks mode rounds key nonce header parcel out) < n
  unfolding convert_checks
  convert-place parcel out n z = parcel-place parcel n _ z (room-place parcel out n z)

  -- ---- a message and a parcel 32 bytes longer pass the same checks

  pub parcel-inputs : (message : ℕ) → seal_inputs mode rounds key nonce header message clear ≡ clear
      → open_inputs mode rounds key nonce header (message + 32) clear ≡ clear
  unfolding open_inputs line line_at
  parcel-inputs message e =
      let i = seal-inputs message e in
      passed_on _ _ (settings-after _) i.0 ∙ rw (le-ltb (message + 32) 32 (omega arith), le-ltb 65568 (message + 32) (omega (arith, i.1)))

  pub message-inputs : (parcel : ℕ) → open_inputs mode rounds key nonce header parcel clear ≡ clear
      → seal_inputs mode rounds key nonce header (parcel - 32) clear ≡ clear
  unfolding seal_inputs line line_at
  message-inputs parcel e =
      let i = open-inputs parcel e in
      passed_on _ _ (settings-after _) i.0 ∙ rw (le-ltb 65536 (parcel - 32) (omega (arith, i.1.1)))
