use Rattle.std.proofs.Common.{◌≡◌, ◌+◌, ◌≤◌, length, Ok}
use Rattle.q_params.specs.ParameterFile.{settings_from, read_lines}
use Rattle.q_params.proofs.reader.read_lines.Given as goal

-- what is read so far and what is left say what the file says
abbrev pub invariant-loop-rest : goal.invariant-loop-rest
invariant-loop-rest l = record {
  read : settings_from (Ok l.draft) (l.number + 1) l.rest ≡ read_lines l.bytes;
  few : l.number + length l.rest ≤ length l.bytes;
}

abbrev pub decreases-loop-rest : goal.decreases-loop-rest
decreases-loop-rest l = length l.rest
