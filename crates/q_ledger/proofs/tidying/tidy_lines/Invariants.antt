use Rattle.std.proofs.Common.{◌≡◌}
use Rattle.q_ledger.specs.LinesLeft.{line_by}
use Rattle.q_ledger.proofs.ListLaws.{numbered_front}
use Rattle.q_ledger.proofs.tidying.tidy_lines.Given as goal

abbrev pub invariant-loop-transport : goal.invariant-loop-transport
invariant-loop-transport l = l.lines ≡ numbered_front (line_by l.rows l.unread l.id) 0 l.transport l.initial.lines
