-- A message as it is shown: its line of the listing, a line for each of its recipients, an empty line
-- and its content; and a damaged file: its place, and what can be read of it.
use Rattle.std.specs.List.{list_any, range_with_len}
use Rattle.std.specs.Option.{option_map_or}
use Rattle.std.specs.Prelude.{◌++◌, ◌==◌, [], codes, decimal, find, flat_map, if◌then◌else◌, length, List, map, Option, take, unwrap_or, ℕ}
use Rattle.q_listing.specs.Listings.{code_text, last_code, message_line, notes_in, queue_text}
use Rattle.q_model.specs.declared.id.Id.{Id}
use Rattle.q_model.specs.declared.outcome.Failure.{Failure}
use Rattle.q_model.specs.declared.outcome.Note.{Note}
use Rattle.q_model.specs.declared.rows.Place.{Place}
use Rattle.q_model.specs.Book.{Book, Damaged, damaged_of, message_of}
use Rattle.q_model.specs.IdTexts.{id_text}
use Rattle.q_model.specs.Message.{address_at, Message, pending}
use Rattle.q_model.specs.SpoolFiles.{file_at, Files}
use Rattle.q_model.specs.Text.{spaced}
use Rattle.q_model.specs.TextParts.{text_line, why_text}
use Rattle.q_show.specs.declared.states.State.{State}
use Rattle.q_show.specs.declared.states.State.TheVariants as states
use Rattle.q_show.specs.Finding.{fault_of}

-- ---- a recipient

-- the failure of a position, by the failure log
abbrev pub failure_at : Message → ℕ → Option Failure
failure_at m position = find (λ f. f.position == position) (map (λ l. l.failure) m.failures)

-- it failed, or else is pending, with the last code that was noted of it, or else is done
abbrev pub state_at : List Note → Message → ℕ → State
state_at notes m position = option_map_or (λ f. states.Failed f.why f.code)
    (failure_at m position) (if list_any (λ p. p == position) (pending m)
    then states.Pending (last_code notes position) else states.Done)

abbrev pub state_text : State → List ℕ
state_text states.Done = codes "done"
state_text (states.Pending code) = codes "pending" ++ option_map_or code_text code []
state_text (states.Failed why code) = why_text why ++ code_text code

-- an address and how it stands
abbrev pub state_line : List ℕ → State → List ℕ
state_line address state = text_line (codes "  " ++ address ++ spaced (state_text state))

abbrev pub recipient_text : List Note → Message → ℕ → List ℕ
recipient_text notes m position = state_line (address_at m position) (state_at notes m position)

-- ---- a message

-- what stands before its content, with the last codes that these notes say
abbrev pub lines_text : List Note → Message → List ℕ
lines_text notes m =
    message_line (queue_text m.place) m.id (length m.content) m.arrival m.sender
    ++ flat_map (recipient_text notes m) (range_with_len 0 (length m.recipients)) ++ text_line []

abbrev pub message_text : Files → Message → List ℕ
message_text f m = lines_text (notes_in f m.id) m ++ m.content

-- ---- a damaged file

-- the offset at which it breaks the form; no line where it is whole
abbrev pub fault_line : Option ℕ → List ℕ
fault_line fault = option_map_or (λ n. text_line (codes "  damaged: byte " ++ decimal n)) fault []

abbrev pub damage_lines : Place → Id → Option ℕ → List ℕ
damage_lines place id fault =
    text_line (queue_text place ++ spaced (id_text id)) ++ fault_line fault ++ text_line []

-- its bytes before that offset
abbrev pub sound_bytes : List ℕ → List ℕ
sound_bytes bytes = option_map_or (λ n. take n bytes) (fault_of bytes) bytes

abbrev pub bytes_text : Place → Id → List ℕ → List ℕ
bytes_text place id bytes = damage_lines place id (fault_of bytes) ++ sound_bytes bytes

abbrev pub damaged_text : Files → Damaged → List ℕ
damaged_text f d = bytes_text d.place d.id (unwrap_or (file_at f d.place d.id) [])

-- ---- what is told of an id: its message, or its damaged file, or nothing where it has neither

abbrev pub shown_text : Files → Book → Id → List ℕ
shown_text f b id = option_map_or (message_text f) (message_of b id)
    (option_map_or (damaged_text f) (damaged_of b id) [])
