-- A log gives the records that were written to it; what stands behind a closed gate is ignored.
use Rattle.std.proofs.Common.{◌≡◌, ℕ, zero, suc, ◌/◌, ◌^◌, ◌<◌, true, false, eqb, List, [], ◌∷◌, ◌++◌, length, drop, flat_map, Option, Some, None, refl, ap, ◌∙◌, arith, append_assoc, append-nil}
use Rattle.std.specs.List.{AllByRecursion}
use Rattle.std.proofs.lemmas.Bool.Decides.{nat_tests}
use Rattle.std.proofs.lemmas.Nat.{from_be_bytes-to_be_bytes_2, from_be_bytes-to_be_bytes_4}
use Rattle.q_model.specs.declared.outcome.Failure.{Failure}
use Rattle.q_model.specs.declared.outcome.Note.{Note}
use Rattle.q_model.specs.declared.outcome.Why.{Why}
use Rattle.q_model.specs.declared.outcome.Why.TheVariants.{Expired, Refused}
use Rattle.q_model.specs.FailureLog.{IsFailure, failure_bytes, failure_in, is_log_code, log_bytes, log_notes, log_records, note_bytes, note_in, records_with, why_byte, why_of}

code_fits : (c : ℕ) → is_log_code c ≡ true → c < 2 ^ 16
code_fits c h = grind (arith, nat_tests)

why_again : (w : Why) → why_of (why_byte w) ≡ Some w
why_again Refused = refl
why_again Expired = refl

pub failure_again : (f : Failure) (rest : List ℕ) → IsFailure f → failure_in (failure_bytes f ++ rest) ≡ Some f
failure_again f rest h = rw (from_be_bytes-to_be_bytes_2 f.code (code_fits f.code h.code), from_be_bytes-to_be_bytes_4 f.position h.position, h.code, why_again f.why) refl

pub note_again : (n : Note) (rest : List ℕ) → n.position < 2 ^ 32 → is_log_code n.code ≡ true → note_in (note_bytes n ++ rest) ≡ Some n
note_again n rest h k = rw (from_be_bytes-to_be_bytes_2 n.code (code_fits n.code k), from_be_bytes-to_be_bytes_4 n.position h, k) refl

pub no_record : {A : Type 0} (meaning : List ℕ → Option A) (n : ℕ) (bytes : List ℕ) → meaning bytes ≡ None → records_with meaning n bytes ≡ []
no_record meaning zero bytes h = refl
no_record meaning (suc n) bytes h = rw h refl

one_record : {A : Type 0} (meaning : List ℕ → Option A) (n : ℕ) (bytes : List ℕ) (a : A) → meaning bytes ≡ Some a → records_with meaning (suc n) bytes ≡ a ∷ records_with meaning n (drop 8 bytes)
one_record meaning n bytes a h = rw h refl

-- a record in front
pub log_records-cons : (f : Failure) (rest : List ℕ) → IsFailure f → log_records (failure_bytes f ++ rest) ≡ f ∷ log_records rest
unfolding log_records
log_records-cons f rest h =
    let count : length (failure_bytes f ++ rest) / 8 ≡ suc (length rest / 8) = omega arith in
    ap (λ (n : ℕ). records_with failure_in n (failure_bytes f ++ rest)) count ∙ one_record failure_in (length rest / 8) (failure_bytes f ++ rest) f (failure_again f rest h)

pub log_notes-cons : (n : Note) (rest : List ℕ) → n.position < 2 ^ 32 → is_log_code n.code ≡ true → log_notes (note_bytes n ++ rest) ≡ n ∷ log_notes rest
unfolding log_notes
log_notes-cons n rest h k =
    let count : length (note_bytes n ++ rest) / 8 ≡ suc (length rest / 8) = omega arith in
    ap (λ (i : ℕ). records_with note_in i (note_bytes n ++ rest)) count ∙ one_record note_in (length rest / 8) (note_bytes n ++ rest) n (note_again n rest h k)

-- records in front
pub log_records-append : (fs : List Failure) (rest : List ℕ) → AllByRecursion IsFailure fs → log_records (flat_map failure_bytes fs ++ rest) ≡ fs ++ log_records rest
log_records-append [] rest h = refl
log_records-append (f ∷ fs) rest h =
    ap log_records (append_assoc (failure_bytes f) (flat_map failure_bytes fs) rest)
    ∙ log_records-cons f (flat_map failure_bytes fs ++ rest) h.0
    ∙ ap (λ (gs : List Failure). f ∷ gs) (log_records-append fs rest h.1)

-- a closed gate
pub log_records-closed : (gate : ℕ) (rest : List ℕ) → eqb gate 79 ≡ false → log_records (gate ∷ rest) ≡ []
unfolding log_records
log_records-closed gate rest h =
    let none : failure_in (gate ∷ rest) ≡ None = rw h refl in
    no_record failure_in (length (gate ∷ rest) / 8) (gate ∷ rest) none

pub log_notes-closed : (gate : ℕ) (rest : List ℕ) → eqb gate 79 ≡ false → log_notes (gate ∷ rest) ≡ []
unfolding log_notes
log_notes-closed gate rest h =
    let none : note_in (gate ∷ rest) ≡ None = rw h refl in
    no_record note_in (length (gate ∷ rest) / 8) (gate ∷ rest) none

-- records, and whatever stands behind a closed gate
pub log_records-gated : (fs : List Failure) (gate : ℕ) (rest : List ℕ) → AllByRecursion IsFailure fs → eqb gate 79 ≡ false → log_records (flat_map failure_bytes fs ++ gate ∷ rest) ≡ fs
log_records-gated fs gate rest h closed = log_records-append fs (gate ∷ rest) h ∙ ap (λ (gs : List Failure). fs ++ gs) (log_records-closed gate rest closed) ∙ append-nil fs

-- the log that is written anew
pub log_records-log_bytes : (fs : List Failure) → AllByRecursion IsFailure fs → log_records (log_bytes fs) ≡ fs
log_records-log_bytes fs h = log_records-gated fs 0 [] h refl

pub log_records-nil : log_records [] ≡ []
unfolding log_records
log_records-nil = refl
