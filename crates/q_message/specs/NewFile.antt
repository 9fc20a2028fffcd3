-- The queue file of a new message: every mark byte is `P`.
use Rattle.std.specs.Int.{w32, w64, to_be_bytes}
use Rattle.std.specs.Option.{option_map_or}
use Rattle.std.specs.Prelude.{◌&&◌, ◌++◌, [], Bool, false, length, List, map, replicate, true, unwrap_or, ℕ, ◌∷◌}
use Rattle.q_model.specs.QueueFile.{FileMessage, is_other, new_version}
use Rattle.q_model.specs.QueueFileBytes.{file_bytes}
use Rattle.q_model.specs.Records.{record_bytes}
use Rattle.q_model.specs.Texts.{is_address}
use Rattle.q_model.specs.Values.{Head, Receiver}

-- where it has an original address, that is another one
abbrev pub is_receiver : Receiver → Bool
is_receiver r = is_other r.address r.original

-- both addresses have the form of one
abbrev pub are_addresses : Receiver → Bool
are_addresses r = is_address r.address && option_map_or is_address r.original true

-- a message of which nothing was delivered yet
abbrev pub new_message : Head → List Receiver → List ℕ → FileMessage
new_message head to content = record {
  version = new_version;
  sender = head.sender;
  arrival = head.arrival;
  content = content;
  recipients = map (λ r. record { address = r.address; original = r.original; marked = false }) to;
}

-- the version and the counts
abbrev pub counts_text : ℕ → ℕ → List ℕ
counts_text recipients content = to_be_bytes w32 new_version ++ to_be_bytes w32 recipients ++ to_be_bytes w32 content

-- the records before those of the recipients
abbrev pub head_text : Head → ℕ → ℕ → List ℕ
head_text head recipients content =
    record_bytes 67 (counts_text recipients content)
    ++ record_bytes 84 (to_be_bytes w64 head.arrival)
    ++ record_bytes 83 (unwrap_or head.sender [])

-- the records of a recipient
abbrev pub recipient_record : Receiver → List ℕ
recipient_record r = record_bytes 79 (unwrap_or r.original []) ++ record_bytes 82 (80 ∷ r.address)

-- the file of the new message, every mark byte of which is `P`
abbrev pub new_file : Head → List Receiver → List ℕ → List ℕ
new_file head to content = file_bytes (new_message head to content) (replicate (length to) 80)
