-- The queues in which a message may stand.
use Rattle.std.specs.Prelude.{◌==◌, Bool, false, None, Option, Some, true, ℕ}
use Rattle.q_model.specs.declared.rows.Place.{Place}
use Rattle.q_model.specs.declared.rows.Place.TheVariants as places

-- in incoming: new mail
abbrev pub is_incoming : Place → Bool
is_incoming places.Incoming = true
is_incoming places.Active = false
is_incoming (places.Deferred due) = false
is_incoming places.Hold = false
is_incoming places.Corrupt = false

-- in active: opened for delivery
abbrev pub is_active : Place → Bool
is_active places.Active = true
is_active places.Incoming = false
is_active (places.Deferred due) = false
is_active places.Hold = false
is_active places.Corrupt = false

-- the moment from which a message in deferred is due
abbrev pub due_of : Place → Option ℕ
due_of (places.Deferred due) = Some due
due_of places.Incoming = None
due_of places.Active = None
due_of places.Hold = None
due_of places.Corrupt = None

-- the same place
abbrev pub place_eq : Place → Place → Bool
place_eq places.Incoming places.Incoming = true
place_eq places.Active places.Active = true
place_eq (places.Deferred due) (places.Deferred other) = due == other
place_eq places.Hold places.Hold = true
place_eq places.Corrupt places.Corrupt = true
place_eq place other = false

-- in corrupt: files that are no queue files, put aside
abbrev pub is_corrupt : Place → Bool
is_corrupt place = place_eq place places.Corrupt
