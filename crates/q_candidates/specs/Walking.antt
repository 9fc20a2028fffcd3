-- What a walk along the heads of a class finds.
use Rattle.std.specs.Option.{is_some, option_map_or}
use Rattle.std.specs.Prelude.{◌≡◌, ◌≤◌, ◌&&◌, ◌==◌, Bool, false, find, if◌then◌else◌, List, nat_le, nat_lt, None, not, Option, option_and_then, Some, true, ℕ}
use Rattle.q_dest.specs.declared.dest.Dest.{Dest}
use Rattle.q_keyed.specs.Numbered.{AreApart, AreKeysApart, item_at, Numbered}
use Rattle.q_heads.specs.Lanes.{Lanes}
use Rattle.q_model.specs.Ids.{id_eq}
use Rattle.q_rounds.specs.Listing.{AreTickets}
use Rattle.q_rounds.specs.Rounds.{has_space_at, key_eq}
use Rattle.q_sorted.specs.declared.ticket.Ticket.{Ticket}
use Rattle.q_sorted.specs.Tickets.{goes_before, is_of}
use Rattle.q_candidates.specs.declared.candidate.Candidate.{Candidate}
use Rattle.q_candidates.specs.declared.lane.Lane.{Lane}
use Rattle.q_candidates.specs.declared.wanted.Wanted.{Wanted}
use Rattle.q_candidates.specs.Candidates.{key_of}
use Rattle.q_candidates.specs.Filing.{key_of_lane, lane_eq, lane_of, ticket_at}
use Rattle.q_candidates.specs.Sound.{AreLanes}

-- it stands in a lane of the transport and the need, and its site has space
abbrev pub is_open : List Dest → Wanted → Candidate → Bool
is_open ds w c = (c.site.transport == w.transport) && (c.need == w.need) && has_space_at ds c.site

-- and it is of another message than the one that is left out
abbrev pub is_wanted : List Dest → Wanted → Candidate → Bool
is_wanted ds w c = is_open ds w c && not (id_eq c.id w.except)

-- the first ticket of the head's lane that is wanted: the head, or the one behind it where the head
-- is of the message that is left out
abbrev pub wanted_in : List Dest → Wanted → List (Numbered Candidate) → List Ticket → Ticket → Candidate → Option Ticket
wanted_in ds w ks items head c =
    if is_open ds w c then
    (if id_eq c.id w.except then find (λ x. is_of head.group x && goes_before head x) items
    else Some head)
    else None

abbrev pub first_in_lane : List Dest → Wanted → List (Numbered Candidate) → List Ticket → Ticket → Option Ticket
first_in_lane ds w ks items head =
    option_and_then (wanted_in ds w ks items head) (item_at head.item ks)

-- the one with the lesser key, or the first of two with one key
abbrev pub nearer : Option Ticket → Option Ticket → Option Ticket
nearer None b = b
nearer (Some a) None = Some a
nearer (Some a) (Some b) = if nat_lt b.key a.key then Some b else Some a

-- what was found has no greater key than the head
abbrev pub is_past : Option Ticket → Ticket → Bool
is_past found head = option_map_or (λ f. nat_le f.key head.key) found false

-- candidates stand in lanes, each by its key
pub record AreOrdered (key : Candidate → ℕ) (lanes : List (Numbered Lane)) (ks : List (Numbered Candidate)) (heads : Lanes) : Type 0 where
  pub lanes_apart : AreApart lanes
  pub lane_keys : AreKeysApart lane_eq key_of_lane lanes
  pub keys : AreKeysApart key_eq key_of ks
  pub lanes_are : AreLanes lanes heads
  pub laned : (n : ℕ) (c : Candidate) → item_at n ks ≡ Some c
      → is_some (lane_of c.site c.need lanes) ≡ true
  pub placed : AreTickets (ticket_at key lanes ks) heads.items

-- a lane that is suspended is at a site without space
abbrev pub AreShut : List Dest → List (Numbered Lane) → Type 0
AreShut ds lanes = (n : ℕ) (l : Lane) → item_at n lanes ≡ Some l → l.suspended ≡ true
    → has_space_at ds l.site ≡ false

-- the ticket is of a candidate that passes, and none that passes has a lesser key
pub record IsLeastBy (key : Candidate → ℕ) (test : Candidate → Bool) (ks : List (Numbered Candidate)) (e : Ticket) : Type 0 where
  pub candidate : Candidate
  pub there : item_at e.item ks ≡ Some candidate
  pub passes : test candidate ≡ true
  pub least : (n : ℕ) (c : Candidate) → item_at n ks ≡ Some c → test c ≡ true
      → key candidate ≤ key c

-- it is that of one with the least key, or none passes
abbrev pub IsFoundBy : (Candidate → ℕ) → (Candidate → Bool) → List (Numbered Candidate) → Option Ticket → Type 0
IsFoundBy key test ks None = (n : ℕ) (c : Candidate) → item_at n ks ≡ Some c → test c ≡ false
IsFoundBy key test ks (Some e) = IsLeastBy key test ks e
