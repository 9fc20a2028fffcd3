-- The failure log of an id where a failure was stored.
use Rattle.std.specs.Prelude.{◌++◌, ◌≡◌, ◌∷◌, [], if◌then◌else◌, is_some, List, Some, unwrap_or, ℕ}
use Rattle.q_model.specs.declared.id.Id.{Id}
use Rattle.q_model.specs.declared.outcome.Failure.{Failure}
use Rattle.q_model.specs.declared.spot.Area.TheVariants as areas
use Rattle.q_model.specs.FailureLog.{log_bytes, log_records}
use Rattle.q_model.specs.IdTexts.{id_text}
use Rattle.q_host.specs.View.{View}
use Rattle.q_logfile.specs.Appends.{appendable, appended}

-- the log with a record more, which is appended where it can be
abbrev pub log_with : Failure → List ℕ → List ℕ
log_with f log =
    if is_some (appendable log) then appended f log else log_bytes (log_records log ++ f ∷ [])

-- the log of the id is the one that stood there, with this record more
abbrev pub LogsFailure : Id → Failure → View → View → Type 0
LogsFailure id failure v w = w.files areas.Bounce (id_text id)
    ≡ Some (log_with failure (unwrap_or (v.files areas.Bounce (id_text id)) []))
