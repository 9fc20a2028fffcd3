use Rattle.std.proofs.Common.{◌≡◌, ◌+◌, ◌≤◌, length, Ok}
use Rattle.q_transport.specs.TableFile.{table_of_file, table_from}
use Rattle.q_transport.proofs.reader.read_table.Given as goal

-- what is read so far and what is left say what the file says
abbrev pub invariant-loop-rest : goal.invariant-loop-rest
invariant-loop-rest l = record {
  read : table_from (Ok l.table) (l.number + 1) l.rest ≡ table_of_file l.bytes;
  few : l.number + length l.rest ≤ length l.bytes;
}

abbrev pub decreases-loop-rest : goal.decreases-loop-rest
decreases-loop-rest l = length l.rest
