-- The records of a queue file: a kind, a length in four bytes, and a body of this length.
use Rattle.std.specs.Int.{w32, from_be_bytes, to_be_bytes}
use Rattle.std.specs.Option.{option_and_then, option_map}
use Rattle.std.specs.Prelude.{◌&&◌, ◌++◌, ◌==◌, [], Bool, drop, if◌then◌else◌, length, List, nat_le, None, Option, Some, take, ℕ, ◌∷◌}

-- the number that the bytes begin with, in four bytes with the highest first
abbrev pub number : List ℕ → ℕ
number bytes = from_be_bytes w32 (take 4 bytes)

-- a kind and its length are followed by a whole body
abbrev pub is_whole : List ℕ → Bool
is_whole bytes = nat_le 4 (length bytes) && nat_le (number bytes) (length (drop 4 bytes))

-- the body of a record of this kind that the bytes begin with, and the bytes behind it
abbrev pub take_record : ℕ → List ℕ → Option (List ℕ × List ℕ)
take_record kind [] = None
take_record kind (b ∷ bytes) =
    if (b == kind) && is_whole bytes
    then Some (take (number bytes) (drop 4 bytes), drop (number bytes) (drop 4 bytes)) else None

-- what the body of such a record says, and the bytes behind the record
abbrev pub read_record : {A : Type 0} → ℕ → (List ℕ → Option A) → List ℕ → Option (A × List ℕ)
read_record kind meaning bytes =
    option_and_then (λ r. option_map (λ a. (a, r.1)) (meaning r.0)) (take_record kind bytes)

-- the bytes of a record
abbrev pub record_bytes : ℕ → List ℕ → List ℕ
record_bytes kind body = kind ∷ to_be_bytes w32 (length body) ++ body
