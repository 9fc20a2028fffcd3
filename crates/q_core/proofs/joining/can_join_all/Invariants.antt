use Rattle.std.proofs.Common.{◌≡◌, take, true}
use Rattle.std.specs.List.{enumerate_from, list_all}
use Rattle.q_core.specs.Loading.{can_join}
use Rattle.q_core.proofs.joining.can_join_all.Given as goal

-- each line before this one has room
abbrev pub invariant-loop-at : goal.invariant-loop-at
invariant-loop-at l = list_all (can_join l.id l.rows.rows l.schedule.line_room) (enumerate_from 0 (take l.at l.schedule.lines)) ≡ true
