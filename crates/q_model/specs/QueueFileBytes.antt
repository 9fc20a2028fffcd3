-- The bytes of a message's queue file, and where in them each mark stands.
use Rattle.std.specs.Int.{w32, w64, to_be_bytes}
use Rattle.std.specs.List.{list_all}
use Rattle.std.specs.Option.{option_map_or}
use Rattle.std.specs.Prelude.{◌&&◌, ◌+◌, ◌++◌, ◌==◌, [], Bool, if◌then◌else◌, length, List, map, not, Option, slice_get, sum_by, take, true, unwrap_or, zero, suc, ℕ, ◌∷◌, ◌≡◌, ◌≤◌}
use Rattle.q_model.specs.QueueFile.{content_limit, FileMessage, FileRecipient, is_first, is_other, is_version}
use Rattle.q_model.specs.Records.{record_bytes}
use Rattle.q_model.specs.Texts.{is_address}

-- an original address that a file of the version can say beside the address
abbrev pub is_original : ℕ → List ℕ → Option (List ℕ) → Bool
is_original version address original =
    option_map_or (λ a. not (is_first version) && is_address a) original true && is_other address original

-- a recipient that a file of the version can say
abbrev pub is_recipient : ℕ → FileRecipient → Bool
is_recipient version r = is_address r.address && is_original version r.address r.original

-- the forms and sizes that a queue file can hold
pub record IsFileMessage (m : FileMessage) : Type 0 where
  pub version : is_version m.version ≡ true
  pub sender : option_map_or is_address m.sender true ≡ true
  pub arrival : m.arrival ≤ 999990000000
  pub some : 1 ≤ length m.recipients
  pub few : length m.recipients ≤ 50000
  pub addresses : list_all (is_recipient m.version) m.recipients ≡ true
  pub content : length m.content ≤ content_limit m.version

-- a mark byte for each recipient, set where its mark is
abbrev pub AreMarks : List ℕ → FileMessage → Type 0
AreMarks marks m = map (λ b. b == 68) marks ≡ map (λ r. r.marked) m.recipients

-- the version and the counts
abbrev pub counts_body : FileMessage → List ℕ
counts_body m =
    to_be_bytes w32 m.version ++ to_be_bytes w32 (length m.recipients) ++ to_be_bytes w32 (length m.content)

-- the record of an original address, which the first version doesn't have
abbrev pub original_bytes : ℕ → Option (List ℕ) → List ℕ
original_bytes version original = if is_first version then [] else record_bytes 79 (unwrap_or original [])

-- the records of a recipient, with this mark byte
abbrev pub recipient_bytes : ℕ → ℕ → FileRecipient → List ℕ
recipient_bytes version mark r = original_bytes version r.original ++ record_bytes 82 (mark ∷ r.address)

-- the records of the recipients, each with its mark byte
abbrev pub recipients_bytes : ℕ → List ℕ → List FileRecipient → List ℕ
recipients_bytes version [] rs = []
recipients_bytes version (mark ∷ marks) [] = []
recipients_bytes version (mark ∷ marks) (r ∷ rs) =
    recipient_bytes version mark r ++ recipients_bytes version marks rs

-- the records before those of the recipients
abbrev pub head_bytes : FileMessage → List ℕ
head_bytes m =
    record_bytes 67 (counts_body m) ++ record_bytes 84 (to_be_bytes w64 m.arrival)
    ++ record_bytes 83 (unwrap_or m.sender [])

-- the bytes of a message with these mark bytes
unfoldable pub file_bytes : FileMessage → List ℕ → List ℕ
file_bytes m marks = head_bytes m ++ recipients_bytes m.version marks m.recipients
    ++ record_bytes 78 m.content ++ record_bytes 69 []

-- The bytes are a queue file of the message, whichever byte each mark has. `queue_file` says the same of such bytes.
pub record IsFileOf (bytes : List ℕ) (m : FileMessage) : Type 0 where
  pub marks : List ℕ
  pub lawful : IsFileMessage m
  pub agree : AreMarks marks m
  pub written : bytes ≡ file_bytes m marks

-- the offset of the first record of the first recipient
abbrev pub first_at : FileMessage → ℕ
first_at m = 35 + length (unwrap_or m.sender [])

-- how many bytes stand before the record with a recipient's mark
abbrev pub original_size : ℕ → Option (List ℕ) → ℕ
original_size version original = if is_first version then 0 else 5 + length (unwrap_or original [])

-- how many bytes the records of a recipient have
abbrev pub recipient_size : ℕ → FileRecipient → ℕ
recipient_size version r = original_size version r.original + (6 + length r.address)

-- the offset of the first record of a recipient
abbrev pub recipient_at : FileMessage → ℕ → ℕ
recipient_at m position = first_at m + sum_by (recipient_size m.version) (take position m.recipients)

-- how many bytes stand before the record with the mark of a position
abbrev pub before_mark : FileMessage → ℕ → ℕ
before_mark m position =
    option_map_or (λ r. original_size m.version r.original) (slice_get m.recipients position) 0

-- the offset of the mark byte of a recipient
abbrev pub mark_at : FileMessage → ℕ → ℕ
mark_at m position = recipient_at m position + before_mark m position + 5

-- the offset of the content
abbrev pub content_at : FileMessage → ℕ
content_at m = recipient_at m (length m.recipients) + 5

-- the recipients with another mark at a position
abbrev pub with_mark_byte : List FileRecipient → ℕ → Bool → List FileRecipient
with_mark_byte [] position marked = []
with_mark_byte (r ∷ rs) zero marked = record r { marked = marked } ∷ rs
with_mark_byte (r ∷ rs) (suc position) marked = r ∷ with_mark_byte rs position marked

-- the message with another mark at a position
abbrev pub mark_recipient : FileMessage → ℕ → Bool → FileMessage
mark_recipient m position marked = record m { recipients = with_mark_byte m.recipients position marked }
