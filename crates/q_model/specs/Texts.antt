-- The forms of file names, addresses and next hops.
use Rattle.std.specs.List.{list_all}
use Rattle.std.specs.Prelude.{◌&&◌, ◌+◌, ◌==◌, [], Bool, if◌then◌else◌, length, List, map, nat_le, nat_lt, not, ◌||◌, ℕ, ◌∷◌}

-- `a-z`, `0-9` or `-`
abbrev pub is_name_byte : ℕ → Bool
is_name_byte b = (nat_le 97 b && nat_le b 122) || (nat_le 48 b && nat_le b 57) || (b == 45)

-- the name of a file: 1 to 40 such bytes
abbrev pub is_name : List ℕ → Bool
is_name bytes = nat_le 1 (length bytes) && nat_le (length bytes) 40 && list_all is_name_byte bytes

-- printable ASCII without space, comma, `<` and `>`
abbrev pub is_address_byte : ℕ → Bool
is_address_byte b = nat_lt 32 b && nat_lt b 127 && not (b == 44) && not (b == 60) && not (b == 62)

-- the bytes behind the last @; `found` where there is none
abbrev pub domain_from : List ℕ → List ℕ → List ℕ
domain_from [] found = found
domain_from (b ∷ bs) found = domain_from bs (if b == 64 then bs else found)

-- an address: 3 to 254 such bytes, at least one on each side of the last @ (RFC 5321, section 4.1.2)
abbrev pub is_address : List ℕ → Bool
is_address bytes = nat_le 3 (length bytes) && nat_le (length bytes) 254 && list_all is_address_byte bytes
    && nat_lt 0 (length (domain_from bytes [])) && nat_lt (length (domain_from bytes []) + 1) (length bytes)

-- printable ASCII without space
abbrev pub is_hop_byte : ℕ → Bool
is_hop_byte b = nat_lt 32 b && nat_lt b 127

-- a next hop: 1 to 255 such bytes (transport(5))
abbrev pub is_hop : List ℕ → Bool
is_hop bytes = nat_lt 0 (length bytes) && nat_le (length bytes) 255 && list_all is_hop_byte bytes

-- an ASCII letter in lower case
abbrev pub lower : ℕ → ℕ
lower b = if nat_le 65 b && nat_le b 90 then b + 32 else b

-- the domain of an address, in lower case (RFC 5321, section 2.4: domains are compared without case)
abbrev pub domain_of : List ℕ → List ℕ
domain_of address = map lower (domain_from address [])
