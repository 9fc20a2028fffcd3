-- The logs of a message: records of eight bytes, read from the front as far as they are lawful.
use Rattle.std.specs.Int.{w16, w32, from_be_bytes, to_be_bytes}
use Rattle.std.specs.Option.{option_map, option_map_or}
use Rattle.std.specs.Prelude.{◌&&◌, ◌++◌, ◌/◌, ◌==◌, [], Bool, drop, filter, flat_map, if◌then◌else◌, length, List, nat_le, nat_lt, None, not, Option, slice_index, Some, suc, take, true, zero, ◌||◌, ℕ, ◌<◌, ◌^◌, ◌≡◌, ◌∷◌}
use Rattle.q_model.specs.declared.outcome.Failure.{Failure}
use Rattle.q_model.specs.declared.outcome.Note.{Note}
use Rattle.q_model.specs.declared.outcome.Why.{Why}
use Rattle.q_model.specs.declared.outcome.Why.TheVariants.{Expired, Refused}

-- no code, or one of a reply that refuses (RFC 5321, section 4.2)
abbrev pub is_log_code : ℕ → Bool
is_log_code code = (code == 0) || (nat_le 400 code && nat_le code 599)

-- the code and the position of a record
abbrev pub code_in : List ℕ → ℕ
code_in bytes = from_be_bytes w16 (take 2 (drop 2 bytes))

abbrev pub position_in : List ℕ → ℕ
position_in bytes = from_be_bytes w32 (take 4 (drop 4 bytes))

-- the gate is `O`, and the code is lawful
abbrev pub is_open : List ℕ → Bool
is_open bytes = (slice_index bytes 0 == 79) && is_log_code (code_in bytes)

-- `R` or `X`
abbrev pub why_of : ℕ → Option Why
why_of b = if b == 82 then Some Refused else if b == 88 then Some Expired else None

-- the failure of a record; None where there is none
abbrev pub failure_in : List ℕ → Option Failure
failure_in bytes =
    if is_open bytes
    then option_map (λ why. record { position = position_in bytes; why = why; code = code_in bytes })
    (why_of (slice_index bytes 1))
    else None

-- the note of a record of why `L`; None where there is none
abbrev pub note_in : List ℕ → Option Note
note_in bytes =
    if is_open bytes && (slice_index bytes 1 == 76)
    then Some (record { position = position_in bytes; code = code_in bytes }) else None

-- up to n records, as far as they mean something
abbrev pub records_with : {A : Type 0} → (List ℕ → Option A) → ℕ → List ℕ → List A
records_with meaning zero bytes = []
records_with meaning (suc n) bytes = option_map_or (λ a. a ∷ records_with meaning n (drop 8 bytes)) (meaning bytes) []

-- the records of a failure log, whatever their positions
unfoldable pub log_records : List ℕ → List Failure
log_records bytes = records_with failure_in (length bytes / 8) bytes

-- the records of a deferral log
unfoldable pub log_notes : List ℕ → List Note
log_notes bytes = records_with note_in (length bytes / 8) bytes

-- of each position the first
abbrev pub first_of_each : List Failure → List Failure
first_of_each [] = []
first_of_each (f ∷ fs) = f ∷ filter (λ g. not (g.position == f.position)) (first_of_each fs)

-- the failures of a message of n recipients: the first of each position that it has
abbrev pub failures_of : ℕ → List Failure → List Failure
failures_of n fs = first_of_each (filter (λ f. nat_lt f.position n) fs)

-- a failure that a record can hold
pub record IsFailure (f : Failure) : Type 0 where
  pub position : f.position < 2 ^ 32
  pub code : is_log_code f.code ≡ true

abbrev pub why_byte : Why → ℕ
why_byte Refused = 82
why_byte Expired = 88

-- the bytes of an open record
abbrev pub failure_bytes : Failure → List ℕ
failure_bytes f = 79 ∷ why_byte f.why ∷ to_be_bytes w16 f.code ++ to_be_bytes w32 f.position

abbrev pub note_bytes : Note → List ℕ
note_bytes n = 79 ∷ 76 ∷ to_be_bytes w16 n.code ++ to_be_bytes w32 n.position

-- open records, and a closed gate
abbrev pub log_bytes : List Failure → List ℕ
log_bytes fs = flat_map failure_bytes fs ++ 0 ∷ []
