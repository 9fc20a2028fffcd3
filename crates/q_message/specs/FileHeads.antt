-- What is told of a queue file, and where one that is none breaks the form.
use Rattle.std.specs.Option.{option_and_then, option_map, option_map_or}
use Rattle.std.specs.Prelude.{◌≡◌, ◌++◌, ◌-◌, [], None, Some, Bool, count_by, flat_map, if◌then◌else◌, is_some, length, List, Option, replicate, ℕ, ◌∷◌}
use Rattle.q_model.specs.QueueFile.{arrival_of, body_of, Counts, counts_of, FileMessage, is_first, original_of, queue_file, recipient_of, sender_of}
use Rattle.q_model.specs.QueueFileBytes.{content_at, first_at}
use Rattle.q_model.specs.Records.{read_record, take_record}
use Rattle.q_model.specs.Values.{FileHead}

-- the numbers of a message's file, and the offsets of its first recipient and of its content
abbrev pub head_of : FileMessage → FileHead
head_of m = record {
  version = m.version;
  head = record { sender = m.sender; arrival = m.arrival };
  recipients = length m.recipients;
  marked = count_by (λ r. r.marked) m.recipients;
  first_at = first_at m;
  content_at = content_at m;
  content_len = length m.content;
}

-- a record that a file has at some place: its kind, and whether a body can stand there, behind that of the
-- record before
pub record Expected : Type 0 where
  pub kind : ℕ
  pub allows : List ℕ → List ℕ → Bool

-- what the body of the record before says of an original address
abbrev pub said_before : ℕ → List ℕ → Option (List ℕ)
said_before version before = if is_first version then None else option_and_then (λ o. o) (original_of before)

-- the records of one recipient
abbrev pub recipient_records : ℕ → List Expected
recipient_records version =
    (if is_first version then [] else record { kind = 79; allows = λ before body. is_some (original_of body) } ∷ [])
    ++ record { kind = 82; allows = λ before body. is_some (recipient_of (said_before version before) body) } ∷ []

-- the records of a file with these counts, in their order
abbrev pub records_of : Counts → List Expected
records_of c =
    record { kind = 67; allows = λ before body. is_some (counts_of body) }
    ∷ record { kind = 84; allows = λ before body. is_some (arrival_of body) }
    ∷ record { kind = 83; allows = λ before body. is_some (sender_of body) }
    ∷ flat_map (λ x. x) (replicate c.recipients (recipient_records c.version))
    ++ record { kind = 78; allows = λ before body. is_some (body_of c.content body) }
    ∷ record { kind = 69; allows = λ before body. is_some (body_of 0 body) }
    ∷ []

-- the counts in the first record
abbrev pub counts_first : List ℕ → Counts
counts_first bytes = option_map_or (λ r. r.0) (read_record 67 counts_of bytes) (record { version = 1; recipients = 0; content = 0 })

-- the bytes behind as many of these records as stand at the front, one behind the other, behind a record
-- with this body
abbrev pub behind : List ℕ → List Expected → List ℕ → List ℕ
behind before [] bytes = bytes
behind before (x ∷ xs) bytes =
    option_map_or (λ r. if x.allows before r.0 then behind r.0 xs r.1 else bytes) (take_record x.kind bytes) bytes

-- the offset of the first record that breaks the form; the length, where none does
abbrev pub fault_at : List ℕ → ℕ
fault_at bytes = length bytes - length (behind [] (records_of (counts_first bytes)) bytes)

-- the head is that of the message whose file these bytes are
abbrev pub IsHead : FileHead → List ℕ → Type 0
IsHead head file = option_map head_of (queue_file file) ≡ Some head

-- the bytes are no queue file, and break the form at this offset
abbrev pub IsFault : ℕ → List ℕ → Type 0
IsFault place file = (queue_file file ≡ None) × (place ≡ fault_at file)
