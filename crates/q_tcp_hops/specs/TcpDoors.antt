-- Doors that tell nothing of what came and went.
use Rattle.std.specs.Prelude.{◌≡◌, ◌≤◌, false, None}
use Rattle.q_model.specs.FaultCounts.{Rose}
use Rattle.q_door.specs.Doors.{DoorView}
use Rattle.q_door.specs.declared.door.DoorError.{DoorError}
use Rattle.q_door.specs.declared.door.DoorError.TheVariants.{Failed}

-- a door of which nothing was asked yet
abbrev pub unbound : DoorView
unbound = record { door_faults = 0; rests = 0; link_faults = 0; bound = false; waits_left = None; told = None }

-- a door that answers so counts that it failed, and does nothing else
pub record Refuses (answer : DoorError) (old new : DoorView) : Type 0 where
  pub door_faults : old.door_faults ≤ new.door_faults
  pub failed : answer ≡ Failed → Rose old.door_faults new.door_faults
  pub same : record new { door_faults = old.door_faults } ≡ old
