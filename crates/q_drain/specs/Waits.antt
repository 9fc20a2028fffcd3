-- Rests, moments and answers `NotYet`, from one call to the next.
use Rattle.std.specs.Prelude.{◌+◌, ◌≡◌, ◌≤◌, Bool, false, if◌then◌else◌, length, true, ℕ}
use Rattle.q_drain.specs.Stories.{Story}
use Rattle.q_drain.specs.Told.{begun, ended}

-- How often a link answered `NotYet`, by the rests and moments so far, the rests before its connect, and whether it was polled in this sweep.
pub record Waits (rests moments before not_yets : ℕ) (polled : Bool) : Type 0 where
  pub least : rests ≤ before + not_yets
  pub most : not_yets ≤ moments
  pub waiting : polled ≡ true → rests + 1 ≤ before + not_yets
  pub free : polled ≡ false → not_yets + 1 ≤ moments

-- the same between two sweeps, behind the rest that was given
pub record WaitsBetween (rests moments before not_yets : ℕ) : Type 0 where
  pub least : rests ≤ before + not_yets
  pub most : not_yets ≤ moments

-- The moments so far: one for each rest, `extra` for a sweep that has done nothing yet, and at most one more for each delivery that began, and for each that ended.
pub record Sweeps (extra : ℕ) (s : Story) : Type 0 where
  pub least : s.rests + extra ≤ length s.moments
  pub most : length s.moments ≤ s.rests + extra + (length (begun s.told) + length (ended s.told))

-- 1 for a sweep that has done nothing yet
abbrev pub idle : Bool → ℕ
idle busy = if busy then 0 else 1
