use Rattle.std.proofs.Common.{◌≡◌, ◌+◌, ◌≤◌, length, Ok}
use Rattle.q_input.specs.IdLines.{ids_from, ids_in}
use Rattle.q_input.proofs.ids.ids_in.Given as goal

-- what is read so far and what is left say what the list says
abbrev pub invariant-loop-rest : goal.invariant-loop-rest
invariant-loop-rest l = record {
  read : ids_from (Ok l.ids) (l.number + 1) l.rest ≡ ids_in l.fn.bytes;
  few : l.number + length l.rest ≤ length l.fn.bytes;
}

abbrev pub decreases-loop-rest : goal.decreases-loop-rest
decreases-loop-rest l = length l.rest
