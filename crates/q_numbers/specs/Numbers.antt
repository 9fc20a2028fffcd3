-- Numbers in a text: decimal digits, without a sign and without leading zeros.
use Rattle.std.specs.Char.{is_ascii_digit}
use Rattle.std.specs.List.{list_all}
use Rattle.std.specs.Prelude.{◌&&◌, ◌==◌, Bool, if◌then◌else◌, length, List, nat_le, nat_lt, None, not, Option, slice_index, Some, ◌||◌, ℕ}
use Rattle.std.specs.Str.Parse.{digits_value}

-- digits, at least one, of which `0` is the first only where it is the only one
abbrev pub is_number : List ℕ → Bool
is_number text =
    nat_lt 0 (length text) && list_all is_ascii_digit text
    && ((length text == 1) || not (slice_index text 0 == 48))

-- the number that a text writes, where it is from low to high
abbrev pub number_within : ℕ → ℕ → List ℕ → Option ℕ
number_within low high text =
    if is_number text && nat_le low (digits_value 10 text) && nat_le (digits_value 10 text) high
    then Some (digits_value 10 text)
    else None

-- a number below 2^32
abbrev pub number32_of : List ℕ → Option ℕ
number32_of text = number_within 0 4294967295 text

-- a number below 2^64
abbrev pub number64_of : List ℕ → Option ℕ
number64_of text = number_within 0 18446744073709551615 text
