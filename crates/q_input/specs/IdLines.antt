-- The ids that the lines of a text name.
use Rattle.std.specs.Option.{option_map_or}
use Rattle.std.specs.Prelude.{◌++◌, ◌<◌, ◌≡◌, [], Err, if◌then◌else◌, IfSome, length, List, Ok, Option, Result, ℕ, ◌∷◌}
use Rattle.q_input.specs.declared.error.IdsError.{IdsError}
use Rattle.q_input.specs.declared.error.IdsError.TheVariants as errors
use Rattle.q_input.specs.declared.error.InputError.{InputError}
use Rattle.q_input.specs.declared.error.InputError.TheVariants as input
use Rattle.q_model.specs.declared.id.Id.{Id}
use Rattle.q_text.specs.Blanks.{is_passed_over, trimmed}
use Rattle.q_text.specs.Lines.{through_lines}
use Rattle.q_trace.specs.PartTexts.{id_of}

-- the most bytes of a list of ids
abbrev pub most_id_bytes : ℕ
most_id_bytes = 67108864

abbrev pub then_id : List Id → Id → Result (List Id) IdsError
then_id ids id = Ok (ids ++ id ∷ [])

-- line n, behind these ids: it is passed over, or names one more
abbrev pub read_id_line : ℕ → List Id → List ℕ → Result (List Id) IdsError
read_id_line n ids line =
    if is_passed_over line then Ok ids
    else option_map_or (then_id ids) (id_of (trimmed line)) (Err (errors.BadLine n))

-- a line with its number, unless an earlier line was at fault
abbrev pub then_id_line : Result (List Id) IdsError → ℕ × List ℕ → Result (List Id) IdsError
then_id_line (Err e) line = Err e
then_id_line (Ok ids) line = read_id_line line.0 ids line.1

-- the lines of these bytes, of which the first has number n
abbrev pub ids_from : Result (List Id) IdsError → ℕ → List ℕ → Result (List Id) IdsError
ids_from ids n bytes = through_lines then_id_line ids n bytes

-- the ids that a text names, or its first fault; lines count from 1
abbrev pub ids_in : List ℕ → Result (List Id) IdsError
ids_in bytes = ids_from (Ok []) 1 bytes

-- a call answers what is read, unless memory runs out
abbrev pub AnswersIds : Result (List Id) IdsError → Result (List Id) IdsError → Type 0
AnswersIds (Ok ids) read = read ≡ Ok ids
AnswersIds (Err (errors.BadLine n)) read = read ≡ Err (errors.BadLine n)
AnswersIds (Err errors.NoMemory) read = Unit {0}
AnswersIds (Err error) read = ⊥

-- the bytes name these
abbrev pub Lists : List Id → List ℕ → Type 0
Lists ids bytes = ids_in bytes ≡ Ok ids

-- why there is no list
abbrev pub ids_error : InputError → IdsError
ids_error input.TooLong = errors.TooLong
ids_error input.Source = errors.Source
ids_error input.NoMemory = errors.NoMemory

-- the first fault of what the source has, or that it is too long, where it tells that
abbrev pub IsRefusedList : Option (List ℕ) → IdsError → Type 0
IsRefusedList left (errors.BadLine n) = IfSome left (λ bytes. ids_in bytes ≡ Err (errors.BadLine n))
IsRefusedList left errors.TooLong = IfSome left (λ bytes. most_id_bytes < length bytes)
IsRefusedList left errors.Source = Unit {0}
IsRefusedList left errors.NoMemory = Unit {0}
