use Rattle.std.proofs.Common.{◌≡◌, ◌++◌}
use Rattle.q_model.specs.FailureLog.{log_notes}
use Rattle.q_logfile.proofs.reading.notes.Given as goal

-- what was read, and what is to be read of the rest
abbrev pub invariant-loop-chunk : goal.invariant-loop-chunk
invariant-loop-chunk l = record {
  size : l.chunk-iterator.size ≡ 8;
  read : l.notes ++ log_notes l.chunk-iterator.rest.now ≡ log_notes l.bytes;
}
