-- What always holds of how many items there are, and of their room.
use Rattle.std.specs.Prelude.{◌<◌, ◌≤◌, ◌^◌, ℕ}

-- there are no more items than have room, and room is made for all of them
pub record IsSound (len room made : ℕ) : Type 0 where
  pub within : len ≤ room
  pub is_made : room ≤ made
  pub few : room < 2 ^ 30
