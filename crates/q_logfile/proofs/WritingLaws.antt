-- The log that is written holds its records.
use Rattle.std.proofs.Common.{◌≡◌, ◌^◌, ℕ, Bool, true, List, [], ◌∷◌, Some, ap, ◌∙◌}
use Rattle.std.specs.List.{AllByRecursion, list_all}
use Rattle.std.specs.Prelude.{nat_lt}
use Rattle.std.proofs.lemmas.Bool.{and_parts, ltb-true}
use Rattle.q_model.specs.declared.outcome.Failure.{Failure}
use Rattle.std.specs.Option.{option_map}
use Rattle.q_model.specs.declared.spot.Area.{Area}
use Rattle.q_model.specs.FailureLog.{IsFailure, is_log_code, log_bytes, log_records}
use Rattle.q_model.proofs.FailureLogLaws.{log_records-log_bytes}
use Rattle.q_host.specs.View.{Remains, View}
use Rattle.q_store.specs.Stores.{Holds, Stores}
use Rattle.q_logfile.specs.Codes.{are_log_codes}
use Rattle.q_logfile.specs.HasRecords.{HasRecords, LeavesRecords}

-- each position fits in four bytes
abbrev pub do_fit : List Failure → Bool
do_fit fs = list_all (λ f. nat_lt f.position (2 ^ 32)) fs

pub are_failures : (fs : List Failure) → are_log_codes fs ≡ true → do_fit fs ≡ true → AllByRecursion IsFailure fs
are_failures [] codes fit = tt
are_failures (f ∷ fs) codes fit =
    let two = and_parts (is_log_code f.code) (are_log_codes fs) codes in
    let both = and_parts (nat_lt f.position (2 ^ 32)) (do_fit fs) fit in
    (record { position = ltb-true f.position (2 ^ 32) both.0; code = two.0 }, are_failures fs two.1 both.1)

-- ---- what is read where the log is stored

module _ (t : List ℕ) (a : Area) (n : List ℕ) (fs : List Failure) (lawful : AllByRecursion IsFailure fs) (log : List ℕ) (is : log ≡ log_bytes fs) where
  pub stored_records : (d c : Remains) → Stores t a n log d c → HasRecords c.files a n fs
  stored_records d c s =
      ap (option_map log_records) s.files.whole
      ∙ ap (λ (bytes : List ℕ). Some (log_records bytes)) is
      ∙ ap (λ (gs : List Failure). Some gs) (log_records-log_bytes fs lawful)

  pub left_records : (old new : View) → Holds t a n log old new → LeavesRecords new a n fs
  left_records old new held c left = let from = held.goes.crash c left in stored_records from.0 c from.2
