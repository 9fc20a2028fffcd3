-- The record at an offset: first its kind is judged, then its length, then whether it is whole.
use Rattle.std.specs.Prelude.{◌≡◌, ◌+◌, ◌-◌, ◌++◌, [], drop, Err, if◌then◌else◌, length, List, nat_lt, not, Ok, Result, take, true, ℕ, ◌∷◌, ◌≤◌}
use Rattle.q_model.specs.Records.{number, record_bytes}
use Rattle.q_record.specs.declared.error.RecError.{RecError}
use Rattle.q_record.specs.declared.error.RecError.TheVariants.{BadKind, BadLength, NotWhole}
use Rattle.q_record.specs.declared.reading.Rec.{Rec}
use Rattle.q_record.specs.Kinds.{is_kind, is_length}

-- the length of a body of this kind, where the bytes behind the kind begin with one
abbrev pub length_from : ℕ → List ℕ → Result ℕ RecError
length_from kind bytes =
    if not (is_kind kind) then Err BadKind
    else if nat_lt (length bytes) 4 then Err NotWhole
    else if not (is_length kind (number bytes)) then Err BadLength
    else Ok (number bytes)

-- the record of this kind and length
abbrev pub rec_at : ℕ → ℕ → ℕ → Rec
rec_at at kind n = record { kind = kind; from = at + 5; to = at + 5 + n }

-- a record of this kind and length, where so many bytes are left
abbrev pub whole_from : ℕ → ℕ → ℕ → Result ℕ RecError → Result Rec RecError
whole_from at kind left (Err e) = Err e
whole_from at kind left (Ok n) = if nat_lt left n then Err NotWhole else Ok (rec_at at kind n)

-- the record at an offset whose bytes, and all that follow, are these
abbrev pub record_from : ℕ → List ℕ → Result Rec RecError
record_from at [] = Err NotWhole
record_from at (kind ∷ bytes) = whole_from at kind (length bytes - 4) (length_from kind bytes)

-- At the offset stand the bytes of a record of this kind whose body lies between the two others.
pub record IsRecord (bytes : List ℕ) (at : ℕ) (r : Rec) : Type 0 where
  pub from : r.from ≡ at + 5
  pub within : r.to ≤ length bytes
  pub lawful : is_length r.kind (length (take (r.to - r.from) (drop r.from bytes))) ≡ true
  pub written : drop at bytes ≡ record_bytes r.kind (take (r.to - r.from) (drop r.from bytes)) ++ drop r.to bytes

-- each record that was written there is read
abbrev pub ReadsWritten : List ℕ → ℕ → Result Rec RecError → Type 0
ReadsWritten bytes at result =
    (kind : ℕ) (body rest : List ℕ) → is_length kind (length body) ≡ true
    → drop at bytes ≡ record_bytes kind body ++ rest → result ≡ Ok (rec_at at kind (length body))
