-- The number for C can be taken apart, since every value and place is below 2^32. Assumes nothing.
use Rattle.answers.proofs.Numbers.{taken-apart, told-apart, shown-lt}
use Rattle.mem.specs.Mem.{start_of, old_start_of}
use Rattle.sealing.specs.Sealing.{seal_call, open_call, open_old_call}
use Rattle.sealing.proofs.Answered.{seal-small, open-small}
use Rattle.converting.proofs.Answered.{convert-small}
use Rattle.diagnosing.proofs.Told.{diagnose-small, diagnoses-apart}
use Rattle.run_sealing.proofs.Answered.{seal-run-small, open-run-small}
use Rattle.walking.proofs.Answered.{walk-small, jump_small}
use Rattle.store.specs.Store.{total_call}
use Rattle.store.proofs.Small.{format_small, take-small, cancel-small, total-place, read_small, look-up-small, look-up-kind, look-ups-apart}
use Rattle.demands.specs.ForC.{ForC}

pub for-c : ForC
unfolding seal_call open_call open_old_call total_call
for-c = record {
  told-apart = told-apart;
  of-seal = λ mode rounds key nonce header message out. taken-apart _ (seal-small start_of mode rounds key nonce header message out);
  of-open = λ mode rounds key nonce header parcel out. taken-apart _ (open-small start_of mode rounds key nonce header parcel out);
  of-open-old = λ mode rounds key nonce header parcel out. taken-apart _ (open-small old_start_of mode rounds key nonce header parcel out);
  of-convert = λ mode rounds key nonce header parcel out. taken-apart _ (convert-small mode rounds key nonce header parcel out);
  of-diagnose = λ old mode rounds key nonce header parcel. taken-apart _ (diagnose-small old mode rounds key nonce header parcel);
  of-seal-run = λ mode rounds key nonce header message out words. taken-apart _ (seal-run-small mode rounds key nonce header message out words);
  of-open-run = λ mode rounds key nonce header parcel out words. taken-apart _ (open-run-small mode rounds key nonce header parcel out words);
  of-walk = λ start steps out. taken-apart _ (walk-small start steps out);
  of-jump = λ start alpha beta gamma out. taken-apart _ (jump_small start alpha beta gamma out);
  of_format = λ s. taken-apart _ (format_small s);
  of-take = λ key x s. taken-apart _ (take-small key x s);
  of-cancel = λ key machine sale s h. taken-apart _ (cancel-small key machine sale s h);
  of-total = λ key s. taken-apart _ (shown-lt _ _ (total-place key s));
  of-read = λ machine sale s. taken-apart _ (read_small machine sale s);
  of-look-up = λ key machine sale s. taken-apart _ (look-up-small key machine sale s);
  diagnoses-apart = diagnoses-apart;
  look-up-kind = look-up-kind;
  look-ups-apart = look-ups-apart;
}
