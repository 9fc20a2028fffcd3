-- What was done to a host in memory, and the state that this leads to.
use Rattle.std.specs.Prelude.{ℕ, List, [], ◌∷◌, ◌++◌, Some, None}
use Rattle.std.specs.Option.{option_map}
use Rattle.q_model.specs.declared.spot.Area.{Area}
use Rattle.q_host.specs.Files.{Placed, put}
use Rattle.q_mem_host.specs.declared.rot.Rot.{Rot}
use Rattle.q_mem_host.specs.Kept.{fallen, firm, Kept, overwritten, synced}

-- a call that changed something, a file that was put there synced, or a crash
pub data Event : Type 0 where
  create : Area → List ℕ → Event
  write : Area → List ℕ → ℕ → List ℕ → Event
  sync : Area → List ℕ → Event
  rename : Area → List ℕ → Area → List ℕ → Event
  remove : Area → List ℕ → Event
  tell : List ℕ → Event
  place : Area → List ℕ → List ℕ → Event
  crash : Rot → Event

-- the files and the told bytes
pub record HostState : Type 0 where
  pub disk : Placed Kept
  pub told : List ℕ

-- no files, and nothing told
abbrev pub start : HostState
start = record { disk = λ a n. None; told = [] }

-- the state after an event
abbrev pub host_state_after : Event → HostState → HostState
host_state_after (create a n) s = record { disk = put s.disk a n (Some (firm [])); told = s.told }
host_state_after (write a n at bytes) s = record {
  disk = put s.disk a n (option_map (overwritten at bytes) (s.disk a n));
  told = s.told;
}
host_state_after (sync a n) s = record { disk = put s.disk a n (option_map synced (s.disk a n)); told = s.told }
host_state_after (rename a n b m) s = record { disk = put (put s.disk a n None) b m (s.disk a n); told = s.told }
host_state_after (remove a n) s = record { disk = put s.disk a n None; told = s.told }
host_state_after (tell bytes) s = record { disk = s.disk; told = s.told ++ bytes }
host_state_after (place a n bytes) s = record { disk = put s.disk a n (Some (firm bytes)); told = s.told }
host_state_after (crash way) s = record { disk = λ a n. option_map (fallen way) (s.disk a n); told = s.told }

-- the state after some events
abbrev pub state_from : HostState → List Event → HostState
state_from s [] = s
state_from s (e ∷ es) = state_from (host_state_after e s) es

-- the state that a history leads to
unfoldable pub host_state_of : List Event → HostState
host_state_of h = state_from start h
