use Rattle.std.proofs.Common.{◌≡◌}
use Rattle.q_core.specs.Loading.{joined_within}
use Rattle.q_turns.proofs.WithLine.{changed_below}
use Rattle.q_core.proofs.joining.join_lines.Given as goal

abbrev pub invariant-loop-at : goal.invariant-loop-at
invariant-loop-at l = l.schedule ≡ record l.initial.schedule { lines = changed_below (joined_within l.id l.rows.rows l.initial.schedule.line_room) 0 l.at l.initial.schedule.lines }
