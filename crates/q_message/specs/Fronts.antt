-- The record at the front of bytes, of which those behind it may be missing.
use Rattle.std.specs.Option.{option_and_then}
use Rattle.std.specs.Prelude.{◌&&◌, ◌==◌, ◌≡◌, ◌≤◌, ◌⊎◌, [], Bool, false, if◌then◌else◌, length, List, nat_le, None, Option, Some, take, ℕ, ◌∷◌, drop}
use Rattle.q_model.specs.Records.{number, take_record}
use Rattle.q_record.specs.Kinds.{is_length}

-- the body of a record of this kind
abbrev pub front_body : ℕ → List ℕ → Option (List ℕ)
front_body kind bytes =
    option_and_then (λ r. if is_length kind (length r.0) then Some r.0 else None) (take_record kind bytes)

-- a record of this kind and this length begins here, whether it is whole or not
abbrev pub begins_record : ℕ → ℕ → List ℕ → Bool
begins_record kind n [] = false
begins_record kind n (b ∷ bytes) = (b == kind) && nat_le 4 (length bytes) && (number bytes == n)

-- The bytes are the front of others: all of them, or 1,024 and more; no record but the content's is as
-- long, nor are those of a recipient together.
pub record IsFront (front whole : List ℕ) : Type 0 where
  pub same : front ≡ take (length front) whole
  pub enough : (1024 ≤ length front) ⊎ (length whole ≤ length front)

-- what stands in the file from an offset on starts with these bytes
abbrev pub StartsAt : ℕ → List ℕ → List ℕ → Type 0
StartsAt at bytes file = IsFront bytes (drop at file)
