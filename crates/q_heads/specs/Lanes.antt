-- What a contract sees of tickets in lanes.
use Rattle.std.specs.Prelude.{◌<◌, ◌&&◌, ◌||◌, ◌==◌, Bool, false, filter, find, get_or, List, nat_lt, not, Option, ℕ}
use Rattle.std.specs.List.{AllByRecursion, list_any}
use Rattle.std.specs.Option.{option_map_or}
use Rattle.q_sorted.specs.declared.ticket.Ticket.{Ticket}
use Rattle.q_sorted.specs.Tickets.{is_of}

-- the tickets of all lanes, by lane (which is a ticket's group), then by key, then by item, the
-- class of each lane, how many tickets have room, and how many lanes there are
pub record Lanes : Type 0 where
  pub items : List Ticket
  pub classes : List ℕ
  pub room : ℕ
  pub lanes : ℕ

-- each ticket's lane is one of so many
abbrev pub AreKnown : ℕ → List Ticket → Type 0
AreKnown lanes items = AllByRecursion (λ e. e.group < lanes) items

abbrev pub is_same : Ticket → Ticket → Bool
is_same e x = (x.group == e.group) && (x.key == e.key) && (x.item == e.item)

-- the ticket is one of these
abbrev pub stands : Ticket → List Ticket → Bool
stands e xs = list_any (is_same e) xs

-- there is one, and it is this ticket
abbrev pub is_the : Ticket → Option Ticket → Bool
is_the e found = option_map_or (is_same e) found false

-- the class of a lane
abbrev pub class_of : ℕ → List ℕ → ℕ
class_of lane classes = get_or classes lane 0

-- the ticket is the first of its lane
abbrev pub is_head : List Ticket → Ticket → Bool
is_head items e = is_the e (find (is_of e.group) items)

-- the heads of the lanes of a class
abbrev pub heads_of : ℕ → Lanes → List Ticket
heads_of class s =
    filter (λ e. (class_of e.group s.classes == class) && is_head s.items e) s.items

-- by key, then by lane
abbrev pub goes_ahead : Ticket → Ticket → Bool
goes_ahead a b = nat_lt a.key b.key || (a.key == b.key) && nat_lt a.group b.group

-- those of the ticket's class that it goes ahead of
abbrev pub heads_behind : Ticket → Lanes → List Ticket
heads_behind e s = filter (goes_ahead e) (heads_of (class_of e.group s.classes) s)

-- the one that none of them goes ahead of
abbrev pub foremost : List Ticket → Option Ticket
foremost heads = find (λ e. not (list_any (λ x. goes_ahead x e) heads)) heads
