-- Reading a log record by record from the front.
use Rattle.std.proofs.Common.{◌≡◌, ◌<◌, ◌/◌, ℕ, suc, true, List, [], ◌∷◌, ◌++◌, length, Option, Some, None, refl, sym, ap, ◌∙◌, arith, append_assoc, append-nil}
use Rattle.std.specs.List.{AllByRecursion}
use Rattle.std.proofs.lemmas.Bool.{and_from}
use Rattle.std.proofs.lemmas.List.{drop_at, length-append}
use Rattle.q_model.specs.declared.outcome.Failure.{Failure}
use Rattle.q_model.specs.declared.outcome.Note.{Note}
use Rattle.q_model.specs.FailureLog.{failure_in, IsFailure, is_log_code, log_notes, log_records, note_in, records_with}
use Rattle.q_model.proofs.FailureLogLaws.{no_record}
use Rattle.q_model.proofs.FailureLogReads.{log_records-front}
use Rattle.q_model.proofs.RecordLaws.{AreBytes}
use Rattle.q_logfile.specs.Codes.{are_log_codes}

-- what a record means is in its eight bytes
abbrev IsLocal : {A : Type 0} → (List ℕ → Option A) → Type 0
IsLocal meaning = (x rest : List ℕ) → length x ≡ 8 → meaning (x ++ rest) ≡ meaning x

failure_in-local : IsLocal failure_in
failure_in-local (a ∷ b ∷ c ∷ d ∷ e ∷ f ∷ g ∷ h ∷ []) rest eight = refl
failure_in-local other rest eight = absurd (omega arith)

note_in-local : IsLocal note_in
note_in-local (a ∷ b ∷ c ∷ d ∷ e ∷ f ∷ g ∷ h ∷ []) rest eight = refl
note_in-local other rest eight = absurd (omega arith)

module _ {A : Type 0} (meaning : List ℕ → Option A) (local : IsLocal meaning) where
  -- the records in front, as far as they mean something
  abbrev front : List ℕ → List A
  front bytes = records_with meaning (length bytes / 8) bytes

  front-short : (bytes : List ℕ) → length bytes < 8 → front bytes ≡ []
  front-short bytes short =
      let none : length bytes / 8 ≡ 0 = omega arith in
      ap (λ (n : ℕ). records_with meaning n bytes) none

  front-cons : (x rest : List ℕ) (a : A) → length x ≡ 8 → meaning x ≡ Some a → front (x ++ rest) ≡ a ∷ front rest
  front-cons x rest a eight is =
      let count : length (x ++ rest) / 8 ≡ suc (length rest / 8) = omega (arith, length-append x rest) in
      let here : meaning (x ++ rest) ≡ Some a = local x rest eight ∙ is in
      ap (λ (n : ℕ). records_with meaning n (x ++ rest)) count
      ∙ rw here refl
      ∙ ap (λ (bytes : List ℕ). a ∷ records_with meaning (length rest / 8) bytes) (drop_at x rest 8 eight)

  -- ---- some records were read, and these bytes are left

  read_more : (all left x rest : List ℕ) (so_far : List A) (a : A) → so_far ++ front left ≡ front all → left ≡ x ++ rest → length x ≡ 8 → meaning x ≡ Some a → (so_far ++ a ∷ []) ++ front rest ≡ front all
  read_more all left x rest so_far a read cut eight is =
      append_assoc so_far (a ∷ []) (front rest)
      ∙ ap (λ (more : List A). so_far ++ more) (sym (front-cons x rest a eight is) ∙ ap front (sym cut))
      ∙ read

  read_all : (all left : List ℕ) (so_far : List A) → so_far ++ front left ≡ front all → length left < 8 → so_far ≡ front all
  read_all all left so_far read short = sym (append-nil so_far) ∙ ap (λ (more : List A). so_far ++ more) (sym (front-short left short)) ∙ read

  read_stop : (all left x rest : List ℕ) (so_far : List A) → so_far ++ front left ≡ front all → left ≡ x ++ rest → length x ≡ 8 → meaning x ≡ None → so_far ≡ front all
  read_stop all left x rest so_far read cut eight is =
      let none : front left ≡ [] = ap front cut ∙ no_record meaning (length (x ++ rest) / 8) (x ++ rest) (local x rest eight ∙ is) in
      sym (append-nil so_far) ∙ ap (λ (more : List A). so_far ++ more) (sym none) ∙ read

pub records_more : (all left x rest : List ℕ) (so_far : List Failure) (f : Failure) → so_far ++ log_records left ≡ log_records all → left ≡ x ++ rest → length x ≡ 8 → failure_in x ≡ Some f → (so_far ++ f ∷ []) ++ log_records rest ≡ log_records all
unfolding log_records
records_more = read_more failure_in failure_in-local

pub records_all : (all left : List ℕ) (so_far : List Failure) → so_far ++ log_records left ≡ log_records all → length left < 8 → so_far ≡ log_records all
unfolding log_records
records_all = read_all failure_in failure_in-local

pub records_stop : (all left x rest : List ℕ) (so_far : List Failure) → so_far ++ log_records left ≡ log_records all → left ≡ x ++ rest → length x ≡ 8 → failure_in x ≡ None → so_far ≡ log_records all
unfolding log_records
records_stop = read_stop failure_in failure_in-local

pub notes_more : (all left x rest : List ℕ) (so_far : List Note) (n : Note) → so_far ++ log_notes left ≡ log_notes all → left ≡ x ++ rest → length x ≡ 8 → note_in x ≡ Some n → (so_far ++ n ∷ []) ++ log_notes rest ≡ log_notes all
unfolding log_notes
notes_more = read_more note_in note_in-local

pub notes_all : (all left : List ℕ) (so_far : List Note) → so_far ++ log_notes left ≡ log_notes all → length left < 8 → so_far ≡ log_notes all
unfolding log_notes
notes_all = read_all note_in note_in-local

pub notes_stop : (all left x rest : List ℕ) (so_far : List Note) → so_far ++ log_notes left ≡ log_notes all → left ≡ x ++ rest → length x ≡ 8 → note_in x ≡ None → so_far ≡ log_notes all
unfolding log_notes
notes_stop = read_stop note_in note_in-local

-- ---- the codes of what is read

codes_of : (fs : List Failure) → AllByRecursion IsFailure fs → are_log_codes fs ≡ true
codes_of [] all = refl
codes_of (f ∷ fs) all = and_from (is_log_code f.code) (are_log_codes fs) all.0.code (codes_of fs all.1)

pub codes_read : (bytes : List ℕ) → AreBytes bytes → are_log_codes (log_records bytes) ≡ true
codes_read bytes fits = codes_of (log_records bytes) (log_records-front bytes fits).lawful
