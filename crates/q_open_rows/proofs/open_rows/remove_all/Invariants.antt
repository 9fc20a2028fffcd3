use Rattle.std.proofs.Common.{◌≡◌, length}
use Rattle.q_open_rows.proofs.open_rows.remove_all.Given as goal

abbrev pub invariant-loop-number : goal.invariant-loop-number
invariant-loop-number l = l.rows.room ≡ l.initial.rows.room

abbrev pub decreases-loop-number : goal.decreases-loop-number
decreases-loop-number l = length l.rows.items
