-- Worked logs, and the name of a file in deferred.
use Rattle.std.proofs.Common.{◌≡◌, ℕ, false, List, [], ◌∷◌, ◌++◌, length, refl, codes}
use Rattle.q_model.specs.declared.id.Id.{Id}
use Rattle.q_model.specs.declared.outcome.Failure.{Failure}
use Rattle.q_model.specs.declared.outcome.Why.TheVariants.{Expired, Refused}
use Rattle.q_model.specs.FailureLog.{failures_of, log_bytes, log_notes, log_records}
use Rattle.q_model.specs.IdTexts.{decimals, due_text, hex}

abbrev refused : Failure
refused = record { position = 0; why = Refused; code = 550 }

abbrev expired : Failure
expired = record { position = 1; why = Expired; code = 0 }

-- one record behind this gate
abbrev one_record : ℕ → List ℕ
one_record gate = gate ∷ 82 ∷ 2 ∷ 38 ∷ 0 ∷ 0 ∷ 0 ∷ 0 ∷ []

abbrev second_record : List ℕ
second_record = 79 ∷ 88 ∷ 0 ∷ 0 ∷ 0 ∷ 0 ∷ 0 ∷ 1 ∷ []

log-written : log_bytes (refused ∷ []) ≡ one_record 79 ++ 0 ∷ []
log-written = refl

log-read : (log_records (one_record 79 ++ 0 ∷ []) ≡ refused ∷ []) × (length (one_record 79 ++ 0 ∷ []) ≡ 9)
unfolding log_records
log-read = (refl, refl)

-- a closed gate stops the reading
log-closed : log_records (one_record 0 ++ 0 ∷ []) ≡ []
unfolding log_records
log-closed = refl

-- two records and no gate behind them; of one recipient only the first is a failure
log-two : (log_records (one_record 79 ++ second_record) ≡ refused ∷ expired ∷ []) × (failures_of 1 (refused ∷ expired ∷ []) ≡ refused ∷ [])
unfolding log_records
log-two = (refl, refl)

-- a later record of a position that an earlier one has
log-repeated : failures_of 2 (refused ∷ expired ∷ refused ∷ []) ≡ refused ∷ expired ∷ []
log-repeated = refl

-- a record that isn't whole, and one of a deferral log
log-stops : (log_records (79 ∷ 82 ∷ 2 ∷ 38 ∷ 0 ∷ 0 ∷ 0 ∷ []) ≡ []) × (log_records (79 ∷ 76 ∷ 1 ∷ 194 ∷ 0 ∷ 0 ∷ 0 ∷ 0 ∷ []) ≡ []) × (log_notes (79 ∷ 76 ∷ 1 ∷ 194 ∷ 0 ∷ 0 ∷ 0 ∷ 3 ∷ []) ≡ record { position = 3; code = 450 } ∷ [])
unfolding log_records log_notes
log-stops = (refl, refl, refl)

abbrev first_id : Id
first_id = record { generation = 1; serial = 1; bounce = false }

deferred-name : (due_text 1300 first_id ≡ codes "000000001300-00000001-00000001") × (length (due_text 1300 first_id) ≡ 30)
unfolding hex decimals
deferred-name = (refl, refl)
