-- The codes of failures that a log can hold.
use Rattle.std.specs.List.{list_all}
use Rattle.std.specs.Prelude.{Bool, List}
use Rattle.q_model.specs.declared.outcome.Failure.{Failure}
use Rattle.q_model.specs.FailureLog.{is_log_code}

-- each code is 0 or 400 to 599
abbrev pub are_log_codes : List Failure → Bool
are_log_codes failures = list_all (λ f. is_log_code f.code) failures
