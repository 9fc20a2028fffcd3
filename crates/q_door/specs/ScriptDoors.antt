-- A door in memory, by the hops that it is made of.
use Rattle.std.specs.Prelude.{[], Bool, false, if◌then◌else◌, List, map, None, option_map, true, ℕ}
use Rattle.q_link.specs.Records.{Closed as ClosedHop, ToldHops}
use Rattle.q_link.specs.ScriptHops.{ScriptHops, no_scripts}
use Rattle.q_door.specs.Doors.{Closed, DoorView, ToldDoor}

-- the scripts that no link follows yet, and what is known of the links; the binds, their ports, and whether they are told
pub record ScriptDoor : Type 0 where
  pub hops : ScriptHops
  pub binds : ℕ
  pub ports : List ℕ
  pub tells : Bool
  pub bound : Bool

-- nothing is to come, and nothing was done
abbrev pub unbound : ScriptDoor
unbound = record { hops = no_scripts; binds = 0; ports = []; tells = true; bound = false }

-- its hops changed
abbrev pub with_hops : ScriptHops → ScriptDoor → ScriptDoor
with_hops hops d = record d { hops = hops }

-- a record without its next hop
abbrev pub record_of : ClosedHop → Closed
record_of c = record {
  received = c.received;
  sent = c.sent;
  ended = c.ended;
  faults = c.faults;
  not_yets = c.not_yets;
  rests = c.rests;
  accepts = c.connects;
}

abbrev pub told_with : ℕ → List ℕ → ToldHops → ToldDoor
told_with binds ports t = record {
  binds = binds;
  ports = ports;
  accepts = t.connects;
  rests = t.rests;
  records = map record_of t.records;
}

abbrev pub view_of : ScriptDoor → DoorView
view_of d = record {
  door_faults = d.hops.view.connect_faults;
  rests = d.hops.view.rests;
  link_faults = d.hops.view.link_faults;
  bound = d.bound;
  waits_left = d.hops.view.waits_left;
  told = if d.tells then option_map (told_with d.binds d.ports) d.hops.view.told else None;
}
