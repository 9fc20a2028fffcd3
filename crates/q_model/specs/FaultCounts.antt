-- Counts of faults, which stay at their last value once they have come to it.
use Rattle.std.specs.Prelude.{◌-◌, ◌^◌, ◌⊎◌, ℕ, ◌<◌, ◌≤◌}

-- a count rose, or stands at its last value
abbrev pub Rose : ℕ → ℕ → Type 0
Rose before now = (before < now) ⊎ (2 ^ 64 - 1 ≤ now)
