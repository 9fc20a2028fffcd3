-- What a failure log says of the recipients of a message.
use Rattle.std.specs.Prelude.{◌&&◌, Bool, count_by, length, List, not, Option, slice_get, ℕ}
use Rattle.q_look.specs.declared.failed.Failed.{Failed}
use Rattle.q_logfile.specs.Flags.{flag_at, has_failed}
use Rattle.q_model.specs.declared.outcome.Failure.{Failure}
use Rattle.q_model.specs.FailureLog.{failures_of}
use Rattle.q_model.specs.Lists.{places_from}
use Rattle.q_model.specs.QueueFile.{FileMessage, FileRecipient}

-- the positions that failed and aren't marked
abbrev pub unmarked_failed : List Failure → List FileRecipient → List ℕ
unmarked_failed fs rs = places_from 0 (λ i r. not r.marked && has_failed fs i) rs

-- how many recipients failed, and the least position of those that aren't marked
abbrev pub failed_in : List Failure → FileMessage → Failed
failed_in fs m = record {
  count = length (failures_of (length m.recipients) fs);
  unmarked = slice_get (unmarked_failed fs m.recipients) 0;
}

-- so many flags are set
abbrev pub set_count : List Bool → ℕ
set_count flags = count_by (λ t. t) flags

-- the least position whose flag is set and whose recipient isn't marked
abbrev pub first_flagged : List Bool → FileMessage → Option ℕ
first_flagged flags m =
    slice_get (places_from 0 (λ i r. not r.marked && flag_at flags i) m.recipients) 0
