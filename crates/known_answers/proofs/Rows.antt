-- Every row of the table of known answers holds, by a computed test in three parts; P10 and P11 with every round count. Assumes nothing.
use mathlib.Core.Path.{◌≡◌, refl, subst}
use mathlib.Core.Bool.{Bool, true}
use Prim.Native.Nat.{ℕ, ◌+◌, ◌-◌, ◌<◌}
use native.Mathlib.Omega.{arith}
use native.Mathlib.Decide.{dec_lt}
use lib.ListN.{length}
use Rattle.words.specs.Sequence.{tab, cat, fold, times, zeros}
use Rattle.words.specs.Word.{add_w, sub_w, rot_r, rot_l, shl}
use Rattle.words.specs.Block.{le, low_bytes, word_at, block_of, word_bytes, bytes_of, zero_block, xor_at, xor_block, xor_bytes}
use Rattle.permutation.specs.Permutation.{g_of, back_g_of, pick, put, step_at, g_at, back_g_at, over, back_over, columns, diagonals, groups, round, back_round, perm, back_perm}
use Rattle.masks.specs.Steps.{alpha_w, alpha, beta, gamma}
use Rattle.back_steps.specs.BackSteps.{back_alpha}
use Rattle.mem.specs.Mem.{start_words, start_block, start_of, old_start_block, old_start_of, mask_at, encipher, decipher, E, D}
use Rattle.blockplan.specs.Plan.{whole, left, has_left, block_at, absorb_at, xor_over, xor_if, ciphered, tag_bytes}
use Rattle.blockplan.specs.Parcel.{same, parcel_of, cipher_part, tag_part, message_of, genuine, opened}
use Rattle.opp.specs.Opp.{padded, opp_sum, opp_check, opp_tag, seal_at, open_at, opp_stream, opp_cipher, opp_plain, opp_mode}
use Rattle.mro.specs.Mro.{blocks, mro_sum, lengths, mro_tag, counter, mro_stream, streamed, mro_cipher, mro_mode}
use Rattle.modes.specs.Modes.{numbered, mode_over, mode_of}
use Rattle.answers.specs.Answers.{code_of, totalled, line_at, line, room, checked, judged}
use Rattle.checks.specs.Checks.{is_mode, is_one_of, round_counts, is_rounds, settings, seal_inputs, open_inputs, seal_checks, open_checks, convert_checks, larger, run_length, seal_run_checks, open_run_checks}
use Rattle.sealing.specs.Sealing.{verdict, seal_from, open_from, seal_call, open_call, open_old_call}
use Rattle.converting.specs.Converting.{converted, convert_call}
use Rattle.diagnosing.specs.Diagnosing.{setting, with_counts, eight, sixteen, nth, unlike, differs, first_of, reason_at, reason_for, start_under, opens_under, diagnose_call, differ_number, reason_number, reason_told}
use Rattle.run_sealing.specs.RunSealing.{run_in, seal_run_call, open_run_call}
use Rattle.masks.specs.Run.{next_word, grown}
use Rattle.walking.specs.Walking.{is_step, first_bad, in_range, walk_checks, jump_checks}
use Rattle.cells.specs.Numbers.{number_at, put_at}
use Rattle.cells.specs.Chains.{chain, count, is_in, some, first, holder, first_from}
use Rattle.cells.specs.Cells.{cells, first_sale, first_free, next_of, kind_of, body_of, sales, free, is_length, length_fits, kind_fits, named, present, cell_named, cell_before}
use Rattle.cells.specs.Faults.{walk_of, sales_walk, free_walk, length_or, broken_or, unfit, kind_fault, form_fault, fault_of, fault_check}
use Rattle.cells.specs.Changes.{cell_bytes, fresh_cell, fresh, filled, emptied}
use Rattle.sales.specs.Sale.{nonce_of, record_of, sale_mode, body_for, stored_as, opens, record_in, detail_in, sale_in, cash_of}
use Rattle.entries.specs.Entries.{opens_at, shut_at, sale_at, sales_in, cash}
use Rattle.store.specs.Store.{form_checks, key_checks, format_checks, take_checks, cancel_checks, total_checks, read_checks, format_call, take_call, cancel_call, total_call, read_part, handed, read_refusal, read_offset, priced_by, amount_and_price, look_up_call, kind_told, amount_told, price_told, looked_up}
use Rattle.words.proofs.Truth.{all_below, carried}
use Rattle.blockplan.proofs.Compared.{same_true}
use Rattle.known_answers.proofs.Zeros.{zero-tags, zero-parcel}
use Rattle.known_answers.specs.KnownAnswers.{word, g, work_vector, empty_digest, full, sample_key, sample_nonce, sample_header, sample_message, nines, sample_words, tag_words, old_opp, old_mro, new_opp, new_mro, new_opp_parcel, new_mro_parcel, sample_parcel, opened_by_run, sealed_old, answered, paid, body_named, one_sold, broken_by, two_sales, sold_body, zero_body, store_of, told, told_total, code, fields, held_with, setting_numbers, only, reason, table, row_at, KnownAnswers}

-- the test of row i, which opens all that the rows compute with: so the parts below open the test alone
unfoldable agrees : ℕ → Bool
unfolding all_below row_at table same word g work_vector empty_digest full sample_key sample_nonce sample_header sample_message nines sample_words tag_words old_opp old_mro new_opp new_mro new_opp_parcel new_mro_parcel sample_parcel opened_by_run sealed_old answered zero_block tab cat fold times zeros le low_bytes word_at block_of word_bytes bytes_of xor_bytes perm back_perm start_words start_block start_of old_start_block old_start_of mask_at encipher decipher E D whole left has_left block_at xor_over xor_if ciphered tag_bytes padded opp_sum opp_check opp_tag seal_at open_at opp_stream opp_cipher opp_plain blocks absorb_at mro_sum lengths mro_tag counter mro_stream streamed mro_cipher numbered mode_over mode_of opp_mode mro_mode parcel_of message_of cipher_part tag_part genuine opened g_of back_g_of add_w sub_w rot_r rot_l shl round back_round over back_over groups columns diagonals g_at back_g_at step_at pick put alpha alpha_w beta gamma xor_block xor_at back_alpha line_at line room checked judged is_mode is_one_of round_counts is_rounds settings seal_inputs open_inputs seal_checks open_checks convert_checks converted convert_call setting with_counts eight sixteen nth unlike differs first_of reason_at reason_for start_under opens_under diagnose_call differ_number reason_number reason_told next_word grown larger run_length seal_run_checks open_run_checks run_in seal_run_call open_run_call verdict seal_from open_from seal_call open_call open_old_call is_step first_bad in_range walk_checks jump_checks paid body_named one_sold broken_by two_sales sold_body zero_body store_of told told_total code fields held_with setting_numbers only reason stored_as detail_in priced_by amount_and_price look_up_call kind_told amount_told price_told looked_up totalled code_of number_at put_at chain count is_in some first holder first_from cells first_sale first_free next_of kind_of body_of sales free is_length length_fits kind_fits walk_of sales_walk free_walk length_or broken_or unfit kind_fault form_fault fault_of fault_check named present cell_named cell_before cell_bytes fresh_cell fresh filled emptied nonce_of record_of sale_mode body_for opens record_in sale_in cash_of opens_at shut_at sale_at sales_in cash form_checks key_checks format_checks take_checks cancel_checks total_checks read_checks format_call take_call cancel_call total_call read_part handed read_refusal read_offset
agrees i = same (row_at i).got (row_at i).want

-- in three parts, cut before each of these rows: the steps of one computation are bounded, and all rows take more
abbrev cut : ℕ
cut = 84

abbrev later : ℕ
later = 147

front : all_below agrees cut ≡ true
unfolding agrees
front = refl

middle : all_below (λ i. agrees (i + cut)) (later - cut) ≡ true
unfolding agrees
middle = refl

rear : all_below (λ i. agrees (i + later)) (length table - later) ≡ true
unfolding agrees
rear = refl

-- what holds below m and was computed from m on, carried to each number below n
joined : (test : ℕ → Bool) (m n : ℕ) → ((k : ℕ) → k < m → test k ≡ true) → all_below (λ i. test (i + m)) (n - m) ≡ true → (k : ℕ) → k < n → test k ≡ true
joined test m n low high k h = elim (dec_lt k m) [
  | yes p ↦ low k p
  | no p ↦
      let e : k - m + m ≡ k = omega arith in
      subst (λ j. test j ≡ true) e (carried (λ i. test (i + m)) (n - m) high (k - m) (omega arith))
]

pub known-answers : KnownAnswers
unfolding agrees
known-answers = record {
  row = λ i h. same_true (row_at i).got (row_at i).want (joined agrees later (length table) (joined agrees cut later (carried agrees cut front) middle) rear i h);
  zero-tags = zero-tags;
  zero-parcel = zero-parcel;
}
