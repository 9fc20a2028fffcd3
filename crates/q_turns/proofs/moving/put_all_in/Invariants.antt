use Rattle.std.proofs.Common.{◌≡◌, length}
use Rattle.q_rounds.specs.Listing.{AreTickets}
use Rattle.q_turns.proofs.MovingLaws.{put_so_far}
use Rattle.q_rounds.proofs.NumberedWalk.{from_on, StandsIn}
use Rattle.q_turns.proofs.TakenOut.{with_items}
use Rattle.q_turns.proofs.moving.put_all_in.Given as goal

-- the tickets of the peers from here on are missing
abbrev pub invariant-loop-at : goal.invariant-loop-at
invariant-loop-at l = record {
  rest : l.heads ≡ with_items l.fn.heads l.heads.items;
  stood : StandsIn l.peers.items l.at;
  placed : AreTickets (put_so_far l.transport l.lines.items l.lanes.items l.peers.items l.at) l.heads.items;
}

abbrev pub decreases-loop-at : goal.decreases-loop-at
decreases-loop-at l = length (from_on l.at l.peers.items)
