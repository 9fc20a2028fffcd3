-- The lanes of candidates, and where the number of a candidate stands in them.
use Rattle.std.specs.Option.{is_some}
use Rattle.std.specs.Prelude.{◌≡◌, ◌≢◌, ◌%◌, ◌*◌, ◌^◌, ◌&&◌, ◌+◌, ◌==◌, ◌⊎◌, Bool, if◌then◌else◌, List, Option, option_and_then, option_map, Some, true, ℕ}
use Rattle.q_keyed.specs.Numbered.{first_such, item_at, Numbered}
use Rattle.q_model.specs.Sites.{site_eq}
use Rattle.q_model.specs.Values.{Site}
use Rattle.q_peers.specs.Buckets.{site_hash}
use Rattle.q_sorted.specs.declared.ticket.Ticket.{Ticket}
use Rattle.q_candidates.specs.declared.candidate.Candidate.{Candidate}
use Rattle.q_candidates.specs.declared.index.Index.{Index}
use Rattle.q_candidates.specs.declared.lane.Lane.{Lane}
use Rattle.q_candidates.specs.declared.lane.LaneKey.{LaneKey}

abbrev pub key_of_lane : Lane → LaneKey
key_of_lane l = record { site = l.site; need = l.need }

abbrev pub lane_eq : LaneKey → LaneKey → Bool
lane_eq a b = site_eq a.site b.site && (a.need == b.need)

-- a number that is taken from both
abbrev pub lane_hash : LaneKey → ℕ
lane_hash k = (site_hash k.site * 31 + k.need % 2147483647) % 2147483647

-- the lanes of a transport that are walked along, or those that are suspended
abbrev pub group_for : Bool → ℕ → ℕ
group_for suspended transport = if suspended then transport + 256 else transport

-- the class of those of them that are of a need; needs that differ by 2^23 share one
abbrev pub class_for : Bool → ℕ → ℕ → ℕ
class_for suspended transport need = need % 8388608 * 512 + group_for suspended transport

abbrev pub class_of_lane : Lane → ℕ
class_of_lane l = class_for l.suspended l.site.transport l.need

-- the lane of the site and the need
abbrev pub is_lane : Site → ℕ → Lane → Bool
is_lane site need l = site_eq l.site site && (l.need == need)

-- its number
abbrev pub lane_of : Site → ℕ → List (Numbered Lane) → Option ℕ
lane_of site need lanes = first_such (is_lane site need) lanes

-- by arrival, then by rank
abbrev pub age_key : Candidate → ℕ
age_key c = c.arrival * 2 ^ 64 + c.rank

abbrev pub rank_key : Candidate → ℕ
rank_key c = c.rank

abbrev pub ticket_with : (Candidate → ℕ) → ℕ → ℕ → Candidate → Ticket
ticket_with key lane number c = record { key = key c; group = lane; item = number }

-- the ticket of a candidate in the lane of its site and need
abbrev pub ticket_in : (Candidate → ℕ) → List (Numbered Lane) → ℕ → Candidate → Option Ticket
ticket_in key lanes number c =
    option_map (λ lane. ticket_with key lane number c) (lane_of c.site c.need lanes)

-- that of the candidate under a number
abbrev pub ticket_at : (Candidate → ℕ) → List (Numbered Lane) → List (Numbered Candidate) → ℕ → Option Ticket
ticket_at key lanes ks number = option_and_then (ticket_in key lanes number) (item_at number ks)

-- the ticket of a lane among the needs
abbrev pub need_ticket : ℕ → Lane → Ticket
need_ticket number l = record {
  key = l.need;
  group = group_for l.suspended l.site.transport;
  item = number;
}

abbrev pub need_at : List (Numbered Lane) → ℕ → Option Ticket
need_at lanes number = option_map (need_ticket number) (item_at number lanes)

-- the ticket of a lane among those of its site
abbrev pub site_ticket : ℕ → Lane → Ticket
site_ticket number l = record { key = l.need; group = site_hash l.site; item = number }

abbrev pub site_at : List (Numbered Lane) → ℕ → Option Ticket
site_at lanes number = option_map (site_ticket number) (item_at number lanes)

-- the ticket of a candidate among those of its transport, by its arrival
abbrev pub arrival_ticket : ℕ → Candidate → Ticket
arrival_ticket number c = record { key = c.arrival; group = c.site.transport; item = number }

abbrev pub arrival_at : List (Numbered Candidate) → ℕ → Option Ticket
arrival_at ks number = option_map (arrival_ticket number) (item_at number ks)

-- under this number stands this one now, or none, and the others stay
pub record IsChanged (n : ℕ) (o : Option Candidate) (ks new : List (Numbered Candidate)) : Type 0 where
  pub own : item_at n new ≡ o
  pub others : (m : ℕ) → m ≢ n → item_at m new ≡ item_at m ks

-- each lane stood before
abbrev pub AreLeft : List (Numbered Lane) → List (Numbered Lane) → Type 0
AreLeft old new = (n : ℕ) (l : Lane) → item_at n new ≡ Some l → item_at n old ≡ Some l

-- each lane stood before, or is one of the site, which is suspended or isn't
abbrev pub AreFrom : Site → Bool → List (Numbered Lane) → List (Numbered Lane) → Type 0
AreFrom site suspended old new = (n : ℕ) (l : Lane) → item_at n new ≡ Some l
    → (item_at n old ≡ Some l) ⊎ ((l.site ≡ site) × (l.suspended ≡ suspended))

-- the site and the need may have got a lane, the lanes that there were stay, and so do all tickets
-- of candidates
pub record HasGrown (site : Site) (need : ℕ) (suspended : Bool) (old new : Index) : Type 0 where
  pub kept : (s : Site) (d : ℕ) → is_some (lane_of s d old.lanes.items) ≡ true
      → lane_of s d new.lanes.items ≡ lane_of s d old.lanes.items
  pub lanes : (n : ℕ) (l : Lane) → item_at n new.lanes.items ≡ Some l
      → (item_at n old.lanes.items ≡ Some l)
      ⊎ ((l.site ≡ site) × (l.need ≡ need) × (l.suspended ≡ suspended))
  pub ages : new.ages.items ≡ old.ages.items
  pub ranks : new.ranks.items ≡ old.ranks.items
  pub room : new.lanes.room ≡ old.lanes.room
