-- Where the number of a peer stands: in the list of its round while the message wasn't sent to the
-- site, and among the tickets of those that it was sent to after that.
use Rattle.std.specs.Option.{option_map_or}
use Rattle.std.specs.Prelude.{◌≡◌, ◌<◌, ◌==◌, [], Bool, false, filter, get_or, if◌then◌else◌, length, List, map, None, Option, option_and_then, option_map, Some, ℕ}
use Rattle.q_chains.specs.Lists.{Lists, pushed}
use Rattle.q_dest.specs.declared.dest.Dest.{Dest}
use Rattle.q_heads.specs.Lanes.{is_the, stands}
use Rattle.q_keyed.specs.Numbered.{item_at, Numbered}
use Rattle.q_sorted.specs.declared.ticket.Ticket.{Ticket}
use Rattle.q_rounds.specs.declared.peer.Peer.{Peer}
use Rattle.q_rounds.specs.declared.round.Round.{Round}
use Rattle.q_rounds.specs.Jobs.{round_of}
use Rattle.q_rounds.specs.Rounds.{has_space_at, is_started}

-- the list of a peer that is of a round
abbrev pub list_in : Option ℕ → Peer → Option ℕ
list_in round p = if is_started p then None else round

abbrev pub list_of : List (Numbered Round) → Peer → Option ℕ
list_of rounds p = list_in (round_of rounds p) p

-- it is this list
abbrev pub is_list : ℕ → Option ℕ → Bool
is_list b o = option_map_or (λ n. n == b) o false

-- the numbers of the peers in a list, in their order
abbrev pub listed : (Peer → Option ℕ) → ℕ → List (Numbered Peer) → List ℕ
listed place b ks = map (λ k. k.number) (filter (λ k. is_list b (place k.item)) ks)

-- the lists have the numbers of these peers
pub record AreListed (place : Peer → Option ℕ) (ks : List (Numbered Peer)) (room : ℕ) (lists : Lists) : Type 0 where
  pub numbers : lists.numbers ≡ room
  pub count : length lists.lists ≡ room
  pub each : (b : ℕ) → b < room → get_or lists.lists b [] ≡ listed place b ks

-- the number at the end of a list, where there is one
abbrev pub enlisted : Option ℕ → ℕ → List (List ℕ) → List (List ℕ)
enlisted None n lists = lists
enlisted (Some b) n lists = pushed b n lists

-- a ticket stands among these where it is that of the number that it names
abbrev pub AreTickets : (ℕ → Option Ticket) → List Ticket → Type 0
AreTickets at items = (x : Ticket) → stands x items ≡ is_the x (at x.item)

abbrev pub ticket_with : ℕ → ℕ → ℕ → Ticket
ticket_with last number round = record { key = last; group = round; item = number }

-- the ticket of a peer that is of a round
abbrev pub ticket_in : Option ℕ → ℕ → Peer → Option Ticket
ticket_in round number p =
    if is_started p then option_map (ticket_with p.last number) round else None

-- that of the peer under a number
abbrev pub ticket_at : List (Numbered Round) → List (Numbered Peer) → ℕ → Option Ticket
ticket_at rounds ks number =
    option_and_then (λ p. ticket_in (round_of rounds p) number p) (item_at number ks)

-- the site of the peer under a number has space
abbrev pub space_in : List Dest → List (Numbered Peer) → ℕ → Bool
space_in ds ks number = option_map_or (λ p. has_space_at ds p.site) (item_at number ks) false
