use Rattle.std.proofs.Common.{◌≡◌, ◌≤◌, ◌+◌, ◌++◌, length, take, ℕ}
use Rattle.q_core.specs.ServedRows.{served_rows}
use Rattle.q_core.specs.Ties.{ArePeersTied, AreTurnsTied}
use Rattle.q_held.specs.Held.{rows_of}
use Rattle.q_core.proofs.joining.count_peers.Given as goal

-- the rows before this one are counted
abbrev pub invariant-loop-i : goal.invariant-loop-i
invariant-loop-i l =
    (l.schedule ≡ record l.initial.schedule { peers = l.schedule.peers })
    × ArePeersTied l.schedule.peers (rows_of l.waiting.items ++ take l.i l.rows.rows)
    × (length l.schedule.peers ≤ length l.initial.schedule.peers + l.i)
    × (served_rows l.schedule.peers ≡ served_rows l.initial.schedule.peers)
    × ((starts : ℕ) → AreTurnsTied l.initial.schedule.peers (rows_of l.waiting.items) starts → AreTurnsTied l.schedule.peers (rows_of l.waiting.items ++ take l.i l.rows.rows) starts)
