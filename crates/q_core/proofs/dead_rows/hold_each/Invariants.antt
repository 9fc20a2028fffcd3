use Rattle.std.proofs.Common.{◌≡◌, length}
use Rattle.q_core.proofs.DeadRows.{Passed}
use Rattle.q_core.specs.Ties.{goes_to_dead}
use Rattle.q_held.specs.Held.{plain}
use Rattle.q_peers.proofs.Rests.{rest}
use Rattle.q_peers.specs.Numbered.{any_row}
use Rattle.q_core.proofs.dead_rows.hold_each.Given as goal

abbrev pub decreases-loop-at : goal.decreases-loop-at
decreases-loop-at l = length (rest any_row l.at (plain l.waiting.items))

-- the rows that were come by are held back or not
abbrev pub invariant-loop-at : goal.invariant-loop-at
invariant-loop-at l = record {
  rows : plain l.waiting.items ≡ plain l.initial.waiting.items;
  passed : Passed (goes_to_dead l.sites.items) l.waiting.items l.at;
  room : l.waiting.room ≡ l.initial.waiting.room;
  most : l.waiting.most ≡ l.initial.waiting.most;
}
