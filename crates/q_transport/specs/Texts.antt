-- The names of transports.
use Rattle.std.specs.List.{list_all}
use Rattle.std.specs.Prelude.{◌&&◌, ◌==◌, Bool, length, List, nat_le, nat_lt, ◌||◌, ℕ}

-- `a-z`, `0-9`, `_` or `-`
abbrev pub is_transport_byte : ℕ → Bool
is_transport_byte b =
    (nat_le 97 b && nat_le b 122) || (nat_le 48 b && nat_le b 57) || (b == 95) || (b == 45)

-- the name of a transport: 1 to 32 such bytes
abbrev pub is_transport : List ℕ → Bool
is_transport name =
    nat_lt 0 (length name) && nat_le (length name) 32 && list_all is_transport_byte name
