use Rattle.std.proofs.Common.{◌≡◌, length}
use Rattle.std.specs.Prelude.{option_map}
use Rattle.q_positions.specs.Rows.{row_shown}
use Rattle.q_core.specs.Starting.{next_row_of, sent_before}
use Rattle.q_core.proofs.RowWalkLaws.{merged}
use Rattle.q_peers.proofs.Rests.{rest}
use Rattle.q_held.specs.Held.{plain, rows_of}
use Rattle.q_peers.specs.Numbered.{any_row}
use Rattle.q_core.proofs.startable.next_row_among.Given as goal

abbrev pub invariant-loop-at : goal.invariant-loop-at
invariant-loop-at l = merged (sent_before l.fn.core) (option_map row_shown l.next) (next_row_of l.fn.core l.fn.transport l.fn.id (rest any_row l.at (plain l.fn.waiting.items))) ≡ next_row_of l.fn.core l.fn.transport l.fn.id (rows_of l.fn.waiting.items)

abbrev pub decreases-loop-at : goal.decreases-loop-at
decreases-loop-at l = length (rest any_row l.at (plain l.fn.waiting.items))
