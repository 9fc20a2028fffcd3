-- What always holds of peers, their rounds, lists and tickets.
use Rattle.std.specs.Prelude.{◌≡◌, ◌≤◌, ◌<◌, ◌^◌, List, Some, ℕ}
use Rattle.q_chains.specs.Lists.{Lists}
use Rattle.q_keyed.specs.Numbered.{item_at, Items, Numbered, values_of}
use Rattle.q_sorted.specs.Tickets.{Tickets}
use Rattle.q_rounds.specs.declared.peer.Peer.{Peer}
use Rattle.q_rounds.specs.declared.round.Round.{Round}
use Rattle.q_rounds.specs.Jobs.{AreRounds, one_passed, total}
use Rattle.q_rounds.specs.Listing.{AreListed, AreTickets, list_of, ticket_at}

-- a peer's number is below the room, and rows wait for it, not too many to be counted
pub record IsFit (room number : ℕ) (p : Peer) : Type 0 where
  pub below : number < room
  pub some : 1 ≤ p.waiting
  pub few : p.waiting < 2 ^ 32

abbrev pub AreFit : ℕ → List (Numbered Peer) → Type 0
AreFit room ks = (n : ℕ) (p : Peer) → item_at n ks ≡ Some p → IsFit room n p

-- no two peers were last sent to with one number
abbrev pub HaveOwnStarts : List (Numbered Peer) → Type 0
HaveOwnStarts ks = (n m : ℕ) (p q : Peer) → item_at n ks ≡ Some p → item_at m ks ≡ Some q
    → 0 < p.last → p.last ≡ q.last → n ≡ m

pub record IsSound (peers : Items Peer) (rounds : Items Round) (fresh : Lists) (tickets : Tickets) (passed : ℕ) : Type 0 where
  pub fit : AreFit peers.room peers.items
  pub starts : HaveOwnStarts peers.items
  pub counted : AreRounds rounds.room rounds.items (values_of peers.items)
  pub listed : AreListed (list_of rounds.items) peers.items peers.room fresh
  pub placed : AreTickets (ticket_at rounds.items peers.items) tickets.items
  pub passes : passed ≡ total one_passed (values_of peers.items)
  pub round_room : rounds.room ≡ peers.room
  pub ticket_room : tickets.room ≡ peers.room
