-- What a crash may leave of a state, and what a host in memory tells.
use Rattle.std.specs.Prelude.{◌≡◌, ◌≤◌, ◌<◌, min, ℕ, false, List, [], length, take, Option, Some, None}
use Rattle.std.specs.Option.{option_map}
use Rattle.std.specs.List.{slice_index}
use Rattle.q_model.specs.declared.spot.Area.{Area}
use Rattle.q_host.specs.Files.{Placed}
use Rattle.q_model.specs.SpoolFiles.{Files}
use Rattle.q_host.specs.View.{Remains, View}
use Rattle.q_mem_host.specs.Kept.{Kept, is_soft}
use Rattle.q_mem_host.specs.Event.{Event, HostState, host_state_of}

-- The length is between that at the last sync and that now, and each byte that isn't written since then stays.
pub record IsRemnant (k : Kept) (c : List ℕ) : Type 0 where
  pub no_shorter : min (length k.synced) (length k.bytes) ≤ length c
  pub no_longer : length c ≤ length k.bytes
  pub firm : (i : ℕ) → i < length c → is_soft k.soft i ≡ false → slice_index c i ≡ slice_index k.bytes i

-- the same of a place, which a crash neither fills nor empties
abbrev pub IsLeft : Option Kept → Option (List ℕ) → Type 0
IsLeft None None = Unit {0}
IsLeft None (Some c) = ⊥
IsLeft (Some k) None = ⊥
IsLeft (Some k) (Some c) = IsRemnant k c

-- what a crash may leave of a state
pub record MayLeave (s : HostState) (c : Remains) : Type 0 where
  pub told : c.told ≡ s.told
  pub each : (a : Area) (n : List ℕ) → IsLeft (s.disk a n) (c.files a n)

-- what reads give
abbrev pub read_of : Option Kept → Option (List ℕ)
read_of = option_map (λ k. k.bytes)

-- what reads give, at each place
abbrev pub files_of : Placed Kept → Files
files_of disk = λ a n. read_of (disk a n)

-- what a crash may have left after one of the events from that number on
abbrev pub LeftSince : List Event → ℕ → Remains → Type 0
LeftSince h t c = (k : ℕ) × (t ≤ k) × (k ≤ length h) × MayLeave (host_state_of (take k h)) c

-- what is told after a history
abbrev pub view_of : List Event → View
view_of h = record {
  files = files_of (host_state_of h).disk;
  told = (host_state_of h).told;
  may_leave = MayLeave (host_state_of h);
  moment = length h;
  left_since = LeftSince h;
}

-- no files, and nothing told
abbrev pub nothing : Remains
nothing = record { files = λ a n. None; told = [] }
