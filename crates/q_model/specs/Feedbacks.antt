-- What one answer adds to the feedback of a concurrency window (SCHEDULER_README, "Concurrency
-- scheduling"), in whole units.
use Rattle.std.specs.Prelude.{◌*◌, ◌/◌, if◌then◌else◌, ℕ}
use Rattle.q_model.specs.Settings.{Feedback}

-- the least common multiple of 1 to 40, so that each window divides it
abbrev pub parts : ℕ
parts = 5342931457063200

-- what one answer adds at this window, in units of which `unit` make 1
abbrev pub amount : Feedback → ℕ → ℕ
amount f window = if f.by_window then f.numerator * (parts / window) else f.numerator * parts

-- how many units make 1
abbrev pub unit : Feedback → ℕ
unit f = if f.by_window then parts else f.denominator * parts
