-- The parts of a record that is open, before its reason is judged.
use Rattle.std.specs.Prelude.{if◌then◌else◌, List, None, Option, slice_index, Some, ℕ}
use Rattle.q_model.specs.FailureLog.{code_in, is_open, position_in}
use Rattle.q_logfile.specs.declared.record.OpenRecord.{OpenRecord}

abbrev pub open_record : List ℕ → Option OpenRecord
open_record bytes =
    if is_open bytes
    then Some (record { why = slice_index bytes 1; code = code_in bytes; position = position_in bytes })
    else None
