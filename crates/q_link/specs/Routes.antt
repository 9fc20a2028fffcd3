-- Next hops to which a connection can be opened.
use Rattle.std.specs.Prelude.{◌==◌, [], ◌∷◌, Bool, if◌then◌else◌, is_some, length, List, None, Option, option_and_then, option_map, ℕ}
use Rattle.q_numbers.specs.Numbers.{number_within}
use Rattle.q_numbers.specs.Pieces.{cut, each_some, pieces}

-- the numbers of an IPv4 address, and a port
pub record Route : Type 0 where
  pub host : List ℕ
  pub port : ℕ

-- a number up to 255
abbrev pub octet_of : List ℕ → Option ℕ
octet_of text = number_within 0 255 text

-- `a.b.c.d`, four such numbers
abbrev pub host_of : List ℕ → Option (List ℕ)
host_of text = if length (pieces 46 text) == 4 then each_some octet_of (pieces 46 text) else None

-- `:port`, from 1 to 65535
abbrev pub port_of : List ℕ → Option ℕ
port_of [] = None
port_of (b ∷ digits) = if b == 58 then number_within 1 65535 digits else None

-- a host, and a port behind it
abbrev pub host_and_port : List ℕ × List ℕ → Option Route
host_and_port halves = option_and_then
    (λ host. option_map (λ port. record { host = host; port = port }) (port_of halves.1))
    (host_of halves.0)

-- `[a.b.c.d]:port`
abbrev pub route_of : List ℕ → Option Route
route_of [] = None
route_of (b ∷ bytes) = if b == 91 then option_and_then host_and_port (cut 93 bytes) else None

-- whether a connection can be opened to a next hop
abbrev pub has_route : List ℕ → Bool
has_route hop = is_some (route_of hop)
