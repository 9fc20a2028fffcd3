-- The tickets of peers: in the lane of a site with the rank of a job, and among those of a message.
use Rattle.std.specs.Prelude.{◌==◌, ◌&&◌, Bool, if◌then◌else◌, List, None, Option, option_and_then, option_map, slice_get, Some, ℕ}
use Rattle.q_dest.specs.declared.dest.Dest.{Dest}
use Rattle.q_jobs.specs.Jobs.{Jobs, rank_of}
use Rattle.q_keyed.specs.Numbered.{first_such, item_at, Numbered}
use Rattle.q_model.specs.declared.id.Id.{Id}
use Rattle.q_model.specs.Sites.{site_eq}
use Rattle.q_model.specs.Values.{Site}
use Rattle.q_sorted.specs.declared.ticket.Ticket.{Ticket}
use Rattle.q_turns.specs.declared.lane.Lane.{Lane}
use Rattle.q_rounds.specs.declared.peer.Peer.{Peer}
use Rattle.q_rounds.specs.Rounds.{has_space_at, is_peer_for}

-- the rank of the message's job at the transport
abbrev pub rank_at : List Jobs → ℕ → Id → Option ℕ
rank_at lines transport id =
    option_and_then (λ l. rank_of id l.jobs l.ranks) (slice_get lines transport)

-- the rank of a peer's job
abbrev pub rank_by : List Jobs → Peer → Option ℕ
rank_by lines p = rank_at lines p.site.transport p.id

-- the ranks before the job of the message got another than this
abbrev pub ranked_before : Id → ℕ → ℕ → List Jobs → Peer → Option ℕ
ranked_before id transport from lines p =
    if is_peer_for id transport p then Some from else rank_by lines p

-- the ranks of the jobs of other transports
abbrev pub ranked_elsewhere : ℕ → List Jobs → Peer → Option ℕ
ranked_elsewhere transport lines p =
    if p.site.transport == transport then None else rank_by lines p

abbrev pub is_lane_of : Site → Lane → Bool
is_lane_of site l = site_eq l.site site

-- the number of a site's lane
abbrev pub lane_of : Site → List (Numbered Lane) → Option ℕ
lane_of site lanes = first_such (is_lane_of site) lanes

abbrev pub head_with : ℕ → ℕ → ℕ → Ticket
head_with lane number rank = record { key = rank; group = lane; item = number }

-- the ticket of a peer in its lane, where there is one and it has a rank
abbrev pub head_in : (Peer → Option ℕ) → List (Numbered Lane) → ℕ → Peer → Option Ticket
head_in rank lanes number p = option_and_then
    (λ lane. option_map (λ r. head_with lane number r) (rank p)) (lane_of p.site lanes)

-- that of the peer under a number
abbrev pub head_at : (Peer → Option ℕ) → List (Numbered Lane) → List (Numbered Peer) → ℕ → Option Ticket
head_at rank lanes peers number =
    option_and_then (head_in rank lanes number) (item_at number peers)

-- the ticket of a peer among those of its message
abbrev pub message_ticket : ℕ → Peer → Ticket
message_ticket number p = record { key = p.id.generation; group = p.id.serial; item = number }

-- what no ticket of the message goes before
abbrev pub least_of : Id → Ticket
least_of id = record { key = id.generation; group = id.serial; item = 0 }

-- both are of messages with the same numbers
abbrev pub is_of_message : Ticket → Ticket → Bool
is_of_message first e = (e.group == first.group) && (e.key == first.key)

abbrev pub message_at : List (Numbered Peer) → ℕ → Option Ticket
message_at peers number = option_map (message_ticket number) (item_at number peers)

-- the message of the peer under a number, where its site has space
abbrev pub sent_in : List Dest → ℕ → List (Numbered Peer) → Option Id
sent_in ds number peers = option_and_then
    (λ p. if has_space_at ds p.site then Some p.id else None) (item_at number peers)
