-- What a failure log says, where it may be missing.
use Rattle.std.proofs.Common.{◌≡◌, [], List, None, Option, refl, Some, ℕ}
use Rattle.std.specs.Option.{option_map_or}
use Rattle.std.specs.Prelude.{unwrap_or}
use Rattle.q_model.specs.FailureLog.{log_records}
use Rattle.q_model.proofs.FailureLogLaws.{log_records-nil}

pub log_read : (o : Option (List ℕ)) → log_records (unwrap_or o []) ≡ option_map_or log_records o []
log_read None = log_records-nil
log_read (Some bytes) = refl
