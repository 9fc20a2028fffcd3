-- What always holds of candidates and the lanes in which they stand.
use Rattle.std.specs.Option.{is_some}
use Rattle.std.specs.Prelude.{◌≡◌, ◌≤◌, ◌<◌, ◌^◌, length, List, Some, true, ℕ}
use Rattle.q_heads.specs.Lanes.{class_of, Lanes}
use Rattle.q_keyed.specs.Numbered.{item_at, Items, Numbered}
use Rattle.q_model.specs.Values.{Site}
use Rattle.q_rounds.specs.Listing.{AreTickets}
use Rattle.q_sorted.specs.Tickets.{Tickets}
use Rattle.q_candidates.specs.declared.candidate.Candidate.{Candidate}
use Rattle.q_candidates.specs.declared.index.Index.{Index}
use Rattle.q_candidates.specs.declared.lane.Lane.{Lane}
use Rattle.q_candidates.specs.Filing.{age_key, arrival_at, class_of_lane, lane_of, need_at, rank_key, site_at, ticket_at}

-- a lane of its class
pub record IsLane (number : ℕ) (l : Lane) (heads : Lanes) : Type 0 where
  pub below : number < heads.lanes
  pub class : class_of number heads.classes ≡ class_of_lane l

abbrev pub AreLanes : List (Numbered Lane) → Lanes → Type 0
AreLanes lanes heads = (number : ℕ) (l : Lane) → item_at number lanes ≡ Some l
    → IsLane number l heads

-- each lane has a class and stands among the needs and among those of its site, and there is room
-- for as many as there are candidates
pub record IsLaid (i : Index) : Type 0 where
  pub ages : AreLanes i.lanes.items i.ages
  pub ranks : AreLanes i.lanes.items i.ranks
  pub listed : AreTickets (need_at i.lanes.items) i.needs.items
  pub sited : AreTickets (site_at i.lanes.items) i.sites.items
  pub age_lanes : i.ages.lanes ≡ i.lanes.room
  pub age_room : i.ages.room ≡ i.lanes.room
  pub rank_lanes : i.ranks.lanes ≡ i.lanes.room
  pub rank_room : i.ranks.room ≡ i.lanes.room
  pub need_room : i.needs.room ≡ i.lanes.room
  pub site_room : i.sites.room ≡ i.lanes.room

-- a candidate at the site that needs so many deliveries
pub record IsUsed (site : Site) (need : ℕ) (ks : List (Numbered Candidate)) : Type 0 where
  pub number : ℕ
  pub candidate : Candidate
  pub there : item_at number ks ≡ Some candidate
  pub at : candidate.site ≡ site
  pub needs : candidate.need ≡ need

-- each candidate stands in a lane, by its age and by its rank, and each lane has one
pub record IsFiled (ks : List (Numbered Candidate)) (i : Index) : Type 0 where
  pub aged : AreTickets (ticket_at age_key i.lanes.items ks) i.ages.items
  pub ranked : AreTickets (ticket_at rank_key i.lanes.items ks) i.ranks.items
  pub laned : (n : ℕ) (c : Candidate) → item_at n ks ≡ Some c
      → is_some (lane_of c.site c.need i.lanes.items) ≡ true
  pub used : (n : ℕ) (l : Lane) → item_at n i.lanes.items ≡ Some l → IsUsed l.site l.need ks

-- these candidates are filed, and one more has room
pub record HasSpace (i : Index) : Type 0 where
  pub candidates : List (Numbered Candidate)
  pub filed : IsFiled candidates i
  pub fewer : length candidates < i.lanes.room

-- a candidate needs a delivery, and its rank is none of those that have no place
pub record IsFit (c : Candidate) : Type 0 where
  pub some : 1 ≤ c.need
  pub ranked : c.rank < 2 ^ 64

-- candidates and the lanes in which they stand
pub record IsOrdered (candidates : Items Candidate) (index : Index) : Type 0 where
  pub fit : (n : ℕ) (c : Candidate) → item_at n candidates.items ≡ Some c → IsFit c
  pub laid : IsLaid index
  pub filed : IsFiled candidates.items index
  pub room : index.lanes.room ≡ candidates.room

pub record IsSound (candidates : Items Candidate) (index : Index) (arrivals : Tickets) : Type 0 where
  pub ordered : IsOrdered candidates index
  pub arrived : AreTickets (arrival_at candidates.items) arrivals.items
  pub arrival_room : arrivals.room ≡ candidates.room
