use Rattle.std.proofs.Common.{◌≡◌, replicate}
use Rattle.q_turns.proofs.LineSets.{empty_line}
use Rattle.q_turns.proofs.turns.empty_lines.Given as goal

abbrev pub invariant-loop-transport : goal.invariant-loop-transport
invariant-loop-transport l = l.lines.items ≡ replicate l._transport (empty_line l.room)
