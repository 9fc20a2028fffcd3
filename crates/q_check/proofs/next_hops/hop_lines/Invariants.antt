use Rattle.std.proofs.Common.{◌≡◌, ◌+◌, ◌≤◌, length}
use Rattle.q_check.specs.NextHops.{hop_lines, hops_from}
use Rattle.q_check.proofs.next_hops.hop_lines.Given as goal

-- what is told so far and what is left are the whole
abbrev pub invariant-loop-rest : goal.invariant-loop-rest
invariant-loop-rest l = record {
  told : hops_from l.text.items (l.number + 1) l.rest ≡ hop_lines l.bytes;
  few : l.number + length l.rest ≤ length l.bytes;
}

abbrev pub decreases-loop-rest : goal.decreases-loop-rest
decreases-loop-rest l = length l.rest
