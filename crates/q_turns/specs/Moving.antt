-- How the ticket of a peer comes to stand where its job's rank says.
use Rattle.std.specs.Prelude.{◌==◌, if◌then◌else◌, filter, List, None, Option, option_and_then, Some, ℕ}
use Rattle.q_jobs.specs.Jobs.{Jobs}
use Rattle.q_keyed.specs.Numbered.{item_at, Numbered}
use Rattle.q_model.specs.declared.id.Id.{Id}
use Rattle.q_sorted.specs.declared.ticket.Ticket.{Ticket}
use Rattle.q_sorted.specs.Tickets.{inserted, is_another}
use Rattle.q_turns.specs.declared.lane.Lane.{Lane}
use Rattle.q_rounds.specs.declared.peer.Peer.{Peer}
use Rattle.q_turns.specs.Heading.{head_in, rank_by}
use Rattle.q_rounds.specs.Rounds.{is_peer_for}

-- the ticket of the peer under a number, where it is at the transport
abbrev pub missing_head : ℕ → List Jobs → List (Numbered Lane) → List (Numbered Peer) → ℕ → Option Ticket
missing_head transport lines lanes peers number = option_and_then
    (λ p. if p.site.transport == transport then head_in (rank_by lines) lanes number p else None)
    (item_at number peers)

-- that of the peer under a number, where it is of this message at the transport
abbrev pub job_head : Id → ℕ → List Jobs → List (Numbered Lane) → List (Numbered Peer) → ℕ → Option Ticket
job_head id transport lines lanes peers number = option_and_then
    (λ p. if is_peer_for id transport p then head_in (rank_by lines) lanes number p else None)
    (item_at number peers)

abbrev pub with_key : ℕ → Ticket → Ticket
with_key key e = record e { key = key }

-- the ticket comes, and the same with the key goes
abbrev pub moved_head : ℕ → Option Ticket → List Ticket → List Ticket
moved_head from None xs = xs
moved_head from (Some e) xs = inserted e (filter (is_another (with_key from e)) xs)
