-- The listing of the queues (postqueue(1), -p): each message with its pending recipients.
use Rattle.std.specs.Option.{option_map_or}
use Rattle.std.specs.Prelude.{◌++◌, ◌==◌, [], codes, decimal, find, flat_map, if◌then◌else◌, length, List, option_map, Option, reverse, sum_by, ℕ}
use Rattle.q_model.specs.declared.id.Id.{Id}
use Rattle.q_model.specs.declared.outcome.Note.{Note}
use Rattle.q_model.specs.declared.rows.Place.{Place}
use Rattle.q_model.specs.declared.rows.Place.TheVariants as places
use Rattle.q_model.specs.declared.spot.Area.TheVariants as areas
use Rattle.q_model.specs.Book.{Book}
use Rattle.q_model.specs.FailureLog.{log_notes}
use Rattle.q_model.specs.IdTexts.{id_text}
use Rattle.q_model.specs.Message.{address_at, Message, pending}
use Rattle.q_model.specs.SpoolFiles.{Files}
use Rattle.q_model.specs.Text.{sender_text, spaced}
use Rattle.q_model.specs.TextParts.{text_line}
use Rattle.q_walk.specs.declared.walk.Found.{Found}
use Rattle.q_walk.specs.Listed.{all_queues, listed}

-- ---- lines

-- the name of a queue
abbrev pub queue_text : Place → List ℕ
queue_text places.Incoming = codes "incoming"
queue_text places.Active = codes "active"
queue_text (places.Deferred due) = codes "deferred"
queue_text places.Hold = codes "hold"
queue_text places.Corrupt = codes "corrupt"

-- a message: its queue, id, size, arrival and sender
abbrev pub message_line : List ℕ → Id → ℕ → ℕ → Option (List ℕ) → List ℕ
message_line queue id size arrival sender = text_line (queue ++ spaced (id_text id)
    ++ spaced (decimal size) ++ spaced (decimal arrival) ++ spaced (sender_text sender))

-- the last code that was noted of a position
abbrev pub last_code : List Note → ℕ → Option ℕ
last_code notes position =
    option_map (λ n. n.code) (find (λ n. n.position == position) (reverse notes))

-- a code in brackets; 0 stands for no reply
abbrev pub code_text : ℕ → List ℕ
code_text code = codes " (" ++ (if code == 0 then codes "no reply" else decimal code) ++ codes ")"

-- a recipient, with a code where there is one
abbrev pub coded_line : Option ℕ → List ℕ → List ℕ
coded_line code address = text_line (codes "  " ++ address ++ option_map_or code_text code [])

-- a recipient, with the last code noted of it
abbrev pub recipient_line : List Note → ℕ → List ℕ → List ℕ
recipient_line notes position address = coded_line (last_code notes position) address

-- how many there are
abbrev pub total_line : ℕ → ℕ → List ℕ
total_line messages recipients = text_line (codes "-- " ++ decimal messages ++ codes " messages, "
    ++ decimal recipients ++ codes " recipients")

-- ---- the text

-- the line of a message that a walk found
abbrev pub found_line : Found → List ℕ
found_line found = message_line (queue_text found.place) found.id
    found.head.content_len found.head.head.arrival found.head.head.sender

-- the recipient of a position, with the code that the position has
abbrev pub line_by : (ℕ → Option ℕ) → Message → ℕ → List ℕ
line_by code m position = coded_line (code position) (address_at m position)

-- the recipients of these positions
abbrev pub lines_by : (ℕ → Option ℕ) → Message → List ℕ → List ℕ
lines_by code m positions = flat_map (line_by code m) positions

-- the pending recipients of a message
abbrev pub recipient_lines : List Note → Message → List ℕ
recipient_lines notes m =
    flat_map (λ position. recipient_line notes position (address_at m position)) (pending m)

-- a message and its pending recipients
abbrev pub message_lines : List Note → Message → List ℕ
message_lines notes m =
    message_line (queue_text m.place) m.id (length m.content) m.arrival m.sender
    ++ recipient_lines notes m

-- the records of the deferral log of an id
abbrev pub notes_in : Files → Id → List Note
notes_in f id = option_map_or log_notes (f areas.Defer (id_text id)) []

-- a message, while the files are these
abbrev pub lines_in : Files → Message → List ℕ
lines_in f m = message_lines (notes_in f m.id) m

-- how many pending recipients the messages have
abbrev pub recipient_count : List Message → ℕ
recipient_count ms = sum_by (λ m. length (pending m)) ms

-- one pass over the book and the deferral logs
abbrev pub listing : Files → Book → List ℕ
listing f b = flat_map (lines_in f) (listed all_queues b)
    ++ total_line (length (listed all_queues b)) (recipient_count (listed all_queues b))
