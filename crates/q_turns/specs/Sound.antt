-- What always holds of lines, peers, lanes and their tickets.
use Rattle.std.specs.List.{AllByRecursion}
use Rattle.std.specs.Option.{is_some}
use Rattle.std.specs.Prelude.{◌≡◌, ◌<◌, ◌^◌, [], ◌∷◌, length, List, map, Option, Some, true, ℕ}
use Rattle.q_heads.specs.Lanes.{class_of, Lanes}
use Rattle.q_jobs.specs.declared.job.Job.{Job}
use Rattle.q_jobs.specs.Jobs.{Jobs}
use Rattle.q_keyed.specs.Numbered.{item_at, Items, Numbered, values_of}
use Rattle.q_model.specs.Values.{Site}
use Rattle.q_sorted.specs.Tickets.{Tickets}
use Rattle.q_suspended.specs.Suspensions.{Suspensions}
use Rattle.q_turns.specs.declared.lane.Lane.{Lane}
use Rattle.q_rounds.specs.declared.peer.Peer.{Peer}
use Rattle.q_rounds.specs.Listing.{AreTickets}
use Rattle.q_turns.specs.Heading.{head_at, message_at, lane_of, rank_by}
use Rattle.q_turns.specs.Suspending.{class_at, transport_of}
use Rattle.q_turns.specs.Turns.{AreLinesApart, HaveJobs}

-- the jobs of lines
abbrev pub jobs_of : List Jobs → List (List Job)
jobs_of lines = map (λ l. l.jobs) lines

-- each line has room for so many
abbrev pub HaveRoom : ℕ → List Jobs → Type 0
HaveRoom room [] = Unit {0}
HaveRoom room (l ∷ ls) = (l.room ≡ room) × HaveRoom room ls

-- each job has a rank
abbrev pub AreRanked : List Jobs → Type 0
AreRanked lines = AllByRecursion (λ l. length l.ranks ≡ length l.jobs) lines

pub record AreSound (lines : List Jobs) (peers : List Peer) (line_room : ℕ) : Type 0 where
  pub room : HaveRoom line_room lines
  pub apart : AreLinesApart (jobs_of lines)
  pub ranked : AreRanked lines
  pub few : length lines < 2 ^ 8
  pub jobs : HaveJobs (jobs_of lines) peers

-- a peer at the site
pub record IsUsed (site : Site) (peers : List (Numbered Peer)) : Type 0 where
  pub number : ℕ
  pub peer : Peer
  pub there : item_at number peers ≡ Some peer
  pub at : peer.site ≡ site

-- a lane of its site's class, with a peer there
pub record IsLane (class : Site → ℕ) (number : ℕ) (lane : Lane) (peers : List (Numbered Peer)) (heads : Lanes) : Type 0 where
  pub below : number < heads.lanes
  pub classed : class_of number heads.classes ≡ class lane.site
  pub used : IsUsed lane.site peers

-- the site of each peer whose transport is one of so many has a lane
abbrev pub HaveLanes : ℕ → List (Numbered Lane) → List (Numbered Peer) → Type 0
HaveLanes transports lanes peers = (number : ℕ) (p : Peer) → item_at number peers ≡ Some p
    → p.site.transport < transports → is_some (lane_of p.site lanes) ≡ true

abbrev pub AreLanes : (Site → ℕ) → List (Numbered Lane) → List (Numbered Peer) → Lanes → Type 0
AreLanes class lanes peers heads = (number : ℕ) (l : Lane) → item_at number lanes ≡ Some l
    → IsLane class number l peers heads

-- each lane is one of those that there are, of a class of its transport
abbrev pub AreLaned : List (Numbered Lane) → Lanes → Type 0
AreLaned lanes heads = (number : ℕ) (l : Lane) → item_at number lanes ≡ Some l
    → (number < heads.lanes) × (transport_of (class_of number heads.classes) ≡ l.site.transport)

-- the tickets of all peers stand in their lanes
pub record ArePlaced (class : Site → ℕ) (rank : Peer → Option ℕ) (transports : ℕ) (lanes : List (Numbered Lane)) (peers : List (Numbered Peer)) (heads : Lanes) : Type 0 where
  pub placed : AreTickets (head_at rank lanes peers) heads.items
  pub laned : HaveLanes transports lanes peers
  pub lanes_are : AreLanes class lanes peers heads

pub record IsSound (lines : List Jobs) (peers : Items Peer) (lanes : Items Lane) (heads : Lanes) (listing : Tickets) (suspended : Suspensions) (line_room : ℕ) : Type 0 where
  pub lines_are : AreSound lines (values_of peers.items) line_room
  pub places : ArePlaced (class_at suspended.items) (rank_by lines) (length lines) lanes.items peers.items heads
  pub listed : AreTickets (message_at peers.items) listing.items
  pub lane_room : lanes.room ≡ peers.room
  pub head_room : heads.room ≡ peers.room
  pub lanes_room : heads.lanes ≡ peers.room
  pub list_room : listing.room ≡ peers.room
