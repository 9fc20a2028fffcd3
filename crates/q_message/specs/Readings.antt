-- What the records of a queue file say, with their offsets; or the offset of the first that breaks
-- the form.
use Rattle.std.specs.Option.{option_and_then, option_map_or}
use Rattle.std.specs.Prelude.{◌&&◌, ◌+◌, ◌==◌, [], count_by, drop, Err, false, if◌then◌else◌, length, List, nat_le, None, not, Ok, Option, Result, slice_get, Some, suc, unwrap_or, zero, ℕ, ◌∷◌}
use Rattle.q_model.specs.QueueFile.{arrival_of, Counts, counts_of, FileRecipient, is_first, original_of, recipient_of, sender_of}
use Rattle.q_model.specs.QueueFileBytes.{original_size, recipient_size}
use Rattle.q_model.specs.Values.{FileHead, Head}
use Rattle.q_message.specs.Causes.{Gives}
use Rattle.q_message.specs.Fronts.{begins_record, front_body}
use Rattle.q_message.specs.declared.error.MessageError.{MessageError}

infixl 10 ◌>>=◌
abbrev pub ◌>>=◌ : {A B : Type 0} → Result A ℕ → (A → Result B ℕ) → Result B ℕ
(Ok x) >>= f = f x
(Err place) >>= f = Err place

-- a value, or the offset where it was wanted
abbrev pub wanted_at : {A : Type 0} → ℕ → Option A → Result A ℕ
wanted_at place o = option_map_or (λ a. Ok a) o (Err place)

-- what the records before those of the recipients say
pub record Start : Type 0 where
  pub counts : Counts
  pub head : Head

-- how many bytes these records have
abbrev pub start_size : Head → ℕ
start_size head = 35 + length (unwrap_or head.sender [])

abbrev pub start_from : List ℕ → Result Start ℕ
start_from bytes = do
  c ← wanted_at 0 (option_and_then counts_of (front_body 67 bytes))
  t ← wanted_at 17 (option_and_then arrival_of (front_body 84 (drop 17 bytes)))
  s ← wanted_at 30 (option_and_then sender_of (front_body 83 (drop 30 bytes)))
  Ok (record { counts = c; head = record { sender = s; arrival = t } })

-- the original address whose record stands at the front of the recipient's, in a file of the version
abbrev pub front_original : ℕ → List ℕ → Option (Option (List ℕ))
front_original version bytes =
    if is_first version then Some None else option_and_then original_of (front_body 79 bytes)

-- the recipient whose record stands behind that of this original address
abbrev pub front_behind : ℕ → List ℕ → Option (List ℕ) → Option FileRecipient
front_behind version bytes original =
    option_and_then (recipient_of original) (front_body 82 (drop (original_size version original) bytes))

-- the recipient whose records stand at the front
abbrev pub front_recipient : ℕ → List ℕ → Option FileRecipient
front_recipient version bytes = option_and_then (front_behind version bytes) (front_original version bytes)

-- the version of a file of which a recipient stands at the front: the records of the second begin with `O`
abbrev pub version_at : List ℕ → ℕ
version_at bytes = if option_map_or (λ b. b == 79) (slice_get bytes 0) false then 2 else 1

-- how many bytes stand before the record of a recipient that breaks the form
abbrev pub fault_in : ℕ → List ℕ → ℕ
fault_in version bytes = option_map_or (original_size version) (front_original version bytes) 0

-- one recipient before others
abbrev pub with_first : FileRecipient → Result (List FileRecipient × ℕ) ℕ → Result (List FileRecipient × ℕ) ℕ
with_first r (Ok others) = Ok (r ∷ others.0, others.1)
with_first r (Err place) = Err place

-- so many recipients from an offset on, and the offset behind them
abbrev pub recipients_from : ℕ → ℕ → ℕ → List ℕ → Result (List FileRecipient × ℕ) ℕ
recipients_from version zero at bytes = Ok ([], at)
recipients_from version (suc n) at bytes =
    option_map_or
    (λ r. with_first r (recipients_from version n (at + recipient_size version r) (drop (recipient_size version r) bytes)))
    (front_recipient version bytes) (Err (at + fault_in version bytes))

-- how many of them are marked, beside so many before them
abbrev pub marks_counted : ℕ → Result (List FileRecipient × ℕ) ℕ → Result (ℕ × ℕ) ℕ
marks_counted before (Ok r) = Ok (before + count_by (λ x. x.marked) r.0, r.1)
marks_counted before (Err place) = Err place

-- a content of this length, and the offset behind its record
abbrev pub content_from : ℕ → ℕ → List ℕ → Result ℕ ℕ
content_from n at bytes =
    if begins_record 78 n bytes && nat_le (5 + n) (length bytes) then Ok (at + 5 + n) else Err at

-- the last record, with nothing behind it
abbrev pub end_from : ℕ → List ℕ → Result (Unit {0}) ℕ
end_from at bytes =
    if not (begins_record 69 0 bytes) then Err at
    else if nat_le (length bytes) 5 then Ok tt else Err (at + 5)

-- the head of a file with these bytes
abbrev pub head_from : List ℕ → Result FileHead ℕ
head_from bytes = do
  s ← start_from bytes
  r ← marks_counted 0 (recipients_from s.counts.version s.counts.recipients (start_size s.head) (drop (start_size s.head) bytes))
  n ← content_from s.counts.content r.1 (drop r.1 bytes)
  e ← end_from n (drop n bytes)
  Ok (record {
    version = s.counts.version;
    head = s.head;
    recipients = s.counts.recipients;
    marked = r.0;
    first_at = start_size s.head;
    content_at = r.1 + 5;
    content_len = s.counts.content;
  })

-- ---- what a call answered is what reading gives, unless the disk or the memory failed

abbrev pub StartRead : Result Start MessageError → List ℕ → Type 0
StartRead result file = Gives (λ s. s) result (start_from file)

-- from an offset on to another one
abbrev pub MarksRead : ℕ → ℕ → Result ℕ MessageError → ℕ → ℕ → List ℕ → Type 0
MarksRead version recipients result at to file =
    Gives (λ marked. (marked, to)) result (marks_counted 0 (recipients_from version recipients at (drop at file)))

abbrev pub ContentRead : ℕ → Result (Unit {0}) MessageError → ℕ → ℕ → List ℕ → Type 0
ContentRead content result at to file = Gives (λ x. to) result (content_from content at (drop at file))

abbrev pub EndRead : ℕ → Result (Unit {0}) MessageError → List ℕ → Type 0
EndRead at result file = Gives (λ x. tt) result (end_from at (drop at file))

abbrev pub HeadRead : Result FileHead MessageError → List ℕ → Type 0
HeadRead result file = Gives (λ head. head) result (head_from file)
