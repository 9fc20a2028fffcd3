-- What a call did: what it told, what its clock gave, and what was done with its door.
use Rattle.std.specs.Prelude.{◌+◌, ◌++◌, ◌≡◌, [], ◌∷◌, List, Option, Some, ℕ}
use Rattle.q_model.specs.declared.entry.Entry.{Entry}
use Rattle.q_door.specs.Doors.{Closed, DoorView, ToldDoor}

-- The entries whose lines were told whole, the moments that the clock gave, the binds, the ports of
-- those that answered Ok, the accept calls, the rests, and the records of links.
pub record Story : Type 0 where
  pub told : List Entry
  pub moments : List ℕ
  pub binds : ℕ
  pub ports : List ℕ
  pub accepts : ℕ
  pub rests : ℕ
  pub records : List Closed

-- the clock gave a moment more, and these entries were told
abbrev pub with_moment : List Entry → ℕ → Story → Story
with_moment es t s = record s { told = s.told ++ es; moments = s.moments ++ t ∷ [] }

-- these entries were told
abbrev pub with_told : List Entry → Story → Story
with_told es s = record s { told = s.told ++ es }

-- one more was done with the door: a bind that failed, one of a port, an accept, a rest, a link closed
abbrev pub with_bind : Story → Story
with_bind s = record s { binds = s.binds + 1 }

abbrev pub with_port : ℕ → Story → Story
with_port port s = record s { binds = s.binds + 1; ports = s.ports ++ port ∷ [] }

abbrev pub with_accept : Story → Story
with_accept s = record s { accepts = s.accepts + 1 }

abbrev pub with_rest : Story → Story
with_rest s = record s { rests = s.rests + 1 }

abbrev pub with_record : Closed → Story → Story
with_record r s = record s { records = s.records ++ r ∷ [] }

-- the door told the first before, and tells the second now that this was done since
pub record Did (before now : ToldDoor) (s : Story) : Type 0 where
  pub binds : now.binds ≡ before.binds + s.binds
  pub ports : now.ports ≡ before.ports ++ s.ports
  pub accepts : now.accepts ≡ before.accepts + s.accepts
  pub rests : now.rests ≡ before.rests + s.rests
  pub records : now.records ≡ before.records ++ s.records

-- where the clock tells, it gave these moments since
abbrev pub HasGiven : Option (List ℕ) → Option (List ℕ) → Story → Type 0
HasGiven old new s = (given : List ℕ) → new ≡ Some given
    → (before : List ℕ) × (old ≡ Some before) × (given ≡ before ++ s.moments)

-- where the door tells, it did this since, of which this holds
abbrev pub HasDone : DoorView → DoorView → Story → Type 0 → Type 0
HasDone old new s holds = (now : ToldDoor) → new.told ≡ Some now
    → (before : ToldDoor) × (old.told ≡ Some before) × Did before now s × holds
