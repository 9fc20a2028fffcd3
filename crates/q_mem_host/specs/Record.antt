-- The record of what was done, as events.
use Rattle.std.specs.Prelude.{List, [], ◌∷◌, ◌++◌, map, Option, Some, None}
use Rattle.q_mem_host.specs.Event.{Event, create, write, sync, rename, remove, tell, place, crash}
use Rattle.q_mem_host.specs.declared.rot.Rot.{Rot}
use Rattle.q_mem_host.specs.declared.record.Call.{Call}
use Rattle.q_mem_host.specs.declared.record.Call.TheVariants.{Create, Write, Sync, Rename, Remove, Tell, Place, Crash}

-- the event of a call
abbrev pub event_of : Call → Event
event_of (Create a n) = create a n
event_of (Write a n at bytes) = write a n at bytes.items
event_of (Sync a n) = sync a n
event_of (Rename a n b m) = rename a n b m
event_of (Remove a n) = remove a n
event_of (Tell bytes) = tell bytes.items
event_of (Place a n bytes) = place a n bytes.items
event_of (Crash rot) = crash rot

-- the events of some calls
abbrev pub events_of : List Call → List Event
events_of cs = map event_of cs

-- the event of a crash that isn't noted yet
abbrev pub crash_of : Option Rot → List Event
crash_of None = []
crash_of (Some rot) = crash rot ∷ []

-- what was done, in order; a crash that isn't noted yet stands last
abbrev pub history : List Call → Option Rot → List Event
history calls crashed = events_of calls ++ crash_of crashed
