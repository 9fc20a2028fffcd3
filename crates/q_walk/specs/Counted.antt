-- Counts of what a walk gives.
use Rattle.std.specs.Prelude.{◌-◌, ◌^◌, min, ℕ}

-- a count of 128 bits, which stays at its last value; none of a book comes to it
abbrev pub counted : ℕ → ℕ
counted n = min n (2 ^ 128 - 1)
