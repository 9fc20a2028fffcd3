-- The listing as JSON (RFC 8259), one object a line, with the members of `postqueue -j`, in the order of
-- their names.
use Rattle.std.specs.Prelude.{◌==◌, codes, decimal, false, flat_map, if◌then◌else◌, length, List, map, None, Option, Some, unwrap_or, ℕ}
use Rattle.q_listing.specs.Listings.{last_code, notes_in, queue_text}
use Rattle.q_model.specs.declared.id.Id.{Id}
use Rattle.q_model.specs.declared.outcome.Note.{Note}
use Rattle.q_model.specs.Book.{Book}
use Rattle.q_model.specs.IdTexts.{id_text}
use Rattle.q_model.specs.Message.{address_at, Message, pending}
use Rattle.q_model.specs.SpoolFiles.{Files}
use Rattle.q_model.specs.TextParts.{text_line}
use Rattle.q_walk.specs.Listed.{all_queues, listed}
use Rattle.serde_json.specs.Data.{array, boolean, Data, member, no_members, number, object, string, unsigned}
use Rattle.serde_json.specs.View.{items_of}
use Rattle.serde_json.specs.Written.{compact_text}

-- the sender; the null sender has the name that postqueue(1) gives it
abbrev pub sender_name : Option (List ℕ) → List ℕ
sender_name sender = unwrap_or sender (codes "MAILER-DAEMON")

-- why a recipient is still pending: the last code, of which 0 stands for no reply
abbrev pub reason_text : ℕ → List ℕ
reason_text code = if code == 0 then codes "no reply" else decimal code

-- a recipient; the reason is left out where no code was noted
abbrev pub recipient_data : Option ℕ → List ℕ → Data
recipient_data None address = object (member (codes "address") (string address) no_members)
recipient_data (Some code) address = object (member (codes "address") (string address)
    (member (codes "delay_reason") (string (reason_text code)) no_members))

-- the object of a recipient's position
abbrev pub object_by : (ℕ → Option ℕ) → Message → ℕ → Data
object_by code m position = recipient_data (code position) (address_at m position)

-- an object with these; no message in a queue is to expire before its time
abbrev pub object_with : List ℕ → Id → ℕ → ℕ → Option (List ℕ) → List Data → Data
object_with queue id arrival size sender recipients = object
    (member (codes "arrival_time") (number (unsigned arrival))
    (member (codes "forced_expire") (boolean false)
    (member (codes "message_size") (number (unsigned size))
    (member (codes "queue_id") (string (id_text id))
    (member (codes "queue_name") (string queue)
    (member (codes "recipients") (array (items_of recipients))
    (member (codes "sender") (string (sender_name sender)) no_members)))))))

-- a message and its pending recipients, with the last codes that these notes say
abbrev pub message_data : List Note → Message → Data
message_data notes m = object_with (queue_text m.place) m.id m.arrival (length m.content) m.sender
    (map (object_by (last_code notes) m) (pending m))

abbrev pub json_line : List Note → Message → List ℕ
json_line notes m = text_line (compact_text (message_data notes m))

-- the same, while the files are these
abbrev pub json_line_in : Files → Message → List ℕ
json_line_in f m = json_line (notes_in f m.id) m

-- all messages
abbrev pub json_text : Files → Book → List ℕ
json_text f b = flat_map (json_line_in f) (listed all_queues b)
