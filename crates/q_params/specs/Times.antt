-- Times in a text: a number and a unit, or a number alone (postconf(5)).
use Rattle.std.specs.Option.{option_map_or}
use Rattle.std.specs.Prelude.{◌&&◌, ◌*◌, ◌-◌, ◌==◌, if◌then◌else◌, length, List, nat_le, None, Option, option_and_then, slice_get, Some, take, ℕ}
use Rattle.q_numbers.specs.Numbers.{number_within}

-- how many seconds `s`, `m`, `h`, `d` and `w` count
abbrev pub unit_of : ℕ → Option ℕ
unit_of b =
    if b == 115 then Some 1
    else if b == 109 then Some 60
    else if b == 104 then Some 3600
    else if b == 100 then Some 86400
    else if b == 119 then Some 604800
    else None

-- a number from low to high
abbrev pub within : ℕ → ℕ → ℕ → Option ℕ
within low high n = if nat_le low n && nat_le n high then Some n else None

-- so many times the unit, where that is from low to high
abbrev pub counted_in_units : ℕ → ℕ → ℕ → List ℕ → Option ℕ
counted_in_units low high unit text =
    option_and_then (λ n. within low high (n * unit)) (number_within 0 high text)

-- the unit at the end
abbrev pub last_unit : List ℕ → Option ℕ
last_unit text = option_and_then unit_of (slice_get text (length text - 1))

-- the seconds of a time from low to high; a number without a unit counts `alone` seconds
abbrev pub seconds_within : ℕ → ℕ → ℕ → List ℕ → Option ℕ
seconds_within low high alone text =
    option_map_or (λ unit. counted_in_units low high unit (take (length text - 1) text)) (last_unit text)
    (counted_in_units low high alone text)
