-- The marks, which keep the lanes' heads in order.
use Rattle.std.specs.Prelude.{◌≡◌, Bool, false, filter, find, length, List, None, Option, option_map, Some, true, ℕ}
use Rattle.q_sorted.specs.declared.ticket.Ticket.{Ticket}
use Rattle.q_sorted.specs.Tickets.{Tickets, inserted, is_another, is_of}
use Rattle.q_heads.specs.Lanes.{AreKnown, class_of, is_same, is_the, Lanes, stands}

-- what stands for a ticket among marks: its key and its lane, in the lane's class
abbrev pub mark_of : ℕ → Ticket → Ticket
mark_of class e = record { key = e.key; group = class; item = e.group }

-- the mark of a lane's head
abbrev pub mark_in : ℕ → ℕ → List Ticket → Option Ticket
mark_in class lane items = option_map (mark_of class) (find (is_of lane) items)

-- the mark is taken from tickets, where there is one
abbrev pub without : Option Ticket → List Ticket → List Ticket
without None xs = xs
without (Some mark) xs = filter (is_another mark) xs

-- and put among them
abbrev pub with_mark : Option Ticket → List Ticket → List Ticket
with_mark None xs = xs
with_mark (Some mark) xs = inserted mark xs

-- both are the same mark, or there is neither
abbrev pub are_same : Option Ticket → Option Ticket → Bool
are_same None None = true
are_same (Some a) (Some b) = is_same a b
are_same a b = false

-- a ticket stands among the marks where it is the mark of the lane that it names
abbrev pub AreMarks : List ℕ → List Ticket → List Ticket → Type 0
AreMarks classes items marks =
    (x : Ticket) → stands x marks ≡ is_the x (mark_in (class_of x.item classes) x.item items)

-- what a contract sees of tickets and classes
abbrev pub seen : Tickets → List ℕ → Lanes
seen tickets classes = record {
  items = tickets.items;
  classes = classes;
  room = tickets.room;
  lanes = length classes;
}

-- what always holds of tickets with their marks
pub record IsSound (tickets marks : Tickets) (classes : List ℕ) : Type 0 where
  pub known : AreKnown (length classes) tickets.items
  pub marked : AreMarks classes tickets.items marks.items
  pub room : marks.room ≡ length classes
