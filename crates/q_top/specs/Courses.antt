-- What a command found, and what it left.
use Rattle.std.specs.Prelude.{◌≡◌, List, Option, true, ℕ}
use Rattle.q_books.specs.HostStands.{HostStands}
use Rattle.q_conf.specs.Confs.{conf_of, goes_by}
use Rattle.q_door.specs.Doors.{DoorView}
use Rattle.q_drain.specs.Swept.{Outsides}
use Rattle.q_host.specs.View.{View}
use Rattle.q_link.specs.Records.{HopsView}
use Rattle.q_listen.specs.ListenEnds.{Outsides as AtDoor}
use Rattle.q_model.specs.Book.{Book}
use Rattle.q_model.specs.Orderly.{is_orderly}
use Rattle.q_model.specs.Settings.{World}

-- what a source had left, and has left now
pub record Texts : Type 0 where
  pub before : Option (List ℕ)
  pub after : Option (List ℕ)

-- the moments that a clock had given, and has given now
pub record Moments : Type 0 where
  pub before : Option (List ℕ)
  pub after : Option (List ℕ)

-- what hops were, and are now
pub record Connections : Type 0 where
  pub before : HopsView
  pub after : HopsView

-- what a door was, and is now
pub record Entrances : Type 0 where
  pub before : DoorView
  pub after : DoorView

-- clock and hops before a command and behind it
abbrev pub outsides : Moments → Connections → Outsides
outsides m c = record {
  before = record { clock = m.before; hops = c.before };
  behind = record { clock = m.after; hops = c.after };
}

-- clock and door
abbrev pub at_door : Moments → Entrances → AtDoor
at_door m e = record {
  before = record { clock = m.before; door = e.before };
  behind = record { clock = m.after; door = e.after };
}

-- in the world that the files of conf say to go by
abbrev pub InWorld : View → (World → Type 0) → Type 0
InWorld u says = (w : World) → conf_of u.files ≡ goes_by w → says w

-- and of each orderly book for which the host stands
abbrev pub ForBooks : View → (World → Book → Type 0) → Type 0
ForBooks u says = InWorld u (λ w. (b : Book) → HostStands u b → is_orderly b ≡ true → says w b)
