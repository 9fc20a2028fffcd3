use Rattle.std.proofs.Common.{◌≡◌}
use Rattle.q_rounds.specs.Listing.{AreTickets}
use Rattle.q_turns.proofs.JobMoves.{moved_to}
use Rattle.q_turns.proofs.MessageWalk.{StandsAt, tickets_left}
use Rattle.q_turns.proofs.TakenOut.{with_items}
use Rattle.q_turns.proofs.moving.move_job.Given as goal

-- the tickets of the message from here on are to be moved
abbrev pub invariant-loop-at : goal.invariant-loop-at
invariant-loop-at l = record {
  rest : l.heads ≡ with_items l.fn.heads l.heads.items;
  stood : StandsAt l.messages.items l.at;
  placed : AreTickets (moved_to l.id l.transport l.from l.lines.items l.lanes.items l.peers.items l.at) l.heads.items;
}

abbrev pub decreases-loop-at : goal.decreases-loop-at
decreases-loop-at l = tickets_left l.messages.items l.at
