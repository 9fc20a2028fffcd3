use Rattle.q_rounds.specs.Walking.{can_start}
use Rattle.q_rounds.proofs.TicketWalk.{StandFrom, tickets_left}
use Rattle.q_rounds.proofs.walking.first_ticket.Given as goal

abbrev pub decreases-loop-at : goal.decreases-loop-at
decreases-loop-at l = tickets_left l.tickets.items l.at

-- all that can start stand from here on
abbrev pub invariant-loop-at : goal.invariant-loop-at
invariant-loop-at l = StandFrom (can_start l.sites.items l.peers.items l.round) l.round l.tickets.items l.at
