use Rattle.std.proofs.Common.{◌≡◌, take}
use Rattle.q_model.specs.Loads.{join_lines}
use Rattle.q_ledger.proofs.joining.joined_lines.Given as goal

abbrev pub invariant-loop-transport : goal.invariant-loop-transport
invariant-loop-transport l = l.joined.items ≡ join_lines l.id l.rows (take l.transport l.lines)
