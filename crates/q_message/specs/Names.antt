-- The addresses at positions of a message, as they are read from its file.
use Rattle.std.specs.Option.{option_map_or}
use Rattle.q_message.specs.declared.error.MessageError.{MessageError}
use Rattle.std.specs.Prelude.{◌≡◌, ◌≤◌, ◌<◌, ◌+◌, ◌-◌, [], Bool, IfSome, IsTrue, length, List, map, None, Option, slice_get, Some, ℕ, IfOk, OnOk, Result}
use Rattle.q_model.specs.QueueFile.{FileMessage, FileRecipient, queue_file}
use Rattle.q_model.specs.QueueFileBytes.{recipient_at}
use Rattle.q_model.specs.Values.{FileHead, Receiver, Spot}
use Rattle.q_host.specs.View.{View}
use Rattle.q_message.specs.FileHeads.{head_of}
use Rattle.q_message.specs.Told.{bytes_at, OnNoMessage}
use Rattle.q_message.specs.Windows.{Seen, Shows}

-- the address of the recipient at a position
abbrev pub address_in : FileMessage → ℕ → List ℕ
address_in m position = option_map_or (λ r. r.address) (slice_get m.recipients position) []

-- the same with its original address
abbrev pub receiver_in : FileMessage → ℕ → Receiver
receiver_in m position = option_map_or (λ r. record { address = r.address; original = r.original })
    (slice_get m.recipients position) (record { address = []; original = None })

-- The bytes are a queue file with this head, but for its marks.
pub record HasHead (bytes : List ℕ) (file : FileHead) : Type 0 where
  pub message : FileMessage
  pub reads : queue_file bytes ≡ Some message
  pub head : record file { marked = 0 } ≡ record (head_of message) { marked = 0 }

-- the window stands on the file of a message, at the recipient of a position
pub record StandsAt (found : Option (List ℕ)) (m : FileMessage) (position : ℕ) (w : Seen) : Type 0 where
  pub bytes : List ℕ
  pub here : found ≡ Some bytes
  pub reads : queue_file bytes ≡ Some m
  pub shows : Shows bytes w
  pub place : w.at ≡ recipient_at m position

-- ---- where the window stands on the file of a message, and what holds of the message there

-- at the recipient of some position
abbrev pub TellsAt : Bool → View → Spot → Seen → (Option (List ℕ) → FileMessage → ℕ → Type 0) → Type 0
TellsAt tells v spot w P =
    IsTrue tells → (m : FileMessage) (i : ℕ) → StandsAt (bytes_at v spot) m i w → P (bytes_at v spot) m i

-- the recipient of the position is this
abbrev pub IsRecipient : FileRecipient → Option (List ℕ) → FileMessage → ℕ → Type 0
IsRecipient r found m i = i < length m.recipients → slice_get m.recipients i ≡ Some r

-- the window stands at the next recipient now
abbrev pub IsNext : Seen → Option (List ℕ) → FileMessage → ℕ → Type 0
IsNext w found m i = i < length m.recipients → StandsAt found m (i + 1) w

-- the window stands so many recipients on
abbrev pub IsOnBy : ℕ → Seen → Option (List ℕ) → FileMessage → ℕ → Type 0
IsOnBy count w found m i = i + count ≤ length m.recipients → StandsAt found m (i + count) w

-- the position is behind the last
abbrev pub IsPast : Option (List ℕ) → FileMessage → ℕ → Type 0
IsPast found m i = length m.recipients ≤ i

-- so many recipients on there is none
abbrev pub IsPastBy : ℕ → Option (List ℕ) → FileMessage → ℕ → Type 0
IsPastBy count found m i = length m.recipients < i + count

-- at the recipient of a position, where the first one has this offset
abbrev pub TellsFrom : Bool → View → Spot → Seen → ℕ → ℕ → (Option (List ℕ) → FileMessage → Type 0) → Type 0
TellsFrom tells v spot w from first_at P =
    IsTrue tells → (m : FileMessage) → StandsAt (bytes_at v spot) m from w → first_at ≡ recipient_at m 0
    → P (bytes_at v spot) m

-- so many recipients before the position stands the window, which stood at `from`
abbrev pub IsSought : ℕ → ℕ → ℕ → Seen → Seen → ℕ → Type 0
IsSought first_at from position before after count =
    (found : Option (List ℕ)) (m : FileMessage) → StandsAt found m from before → first_at ≡ recipient_at m 0
    → StandsAt found m (position - count) after

-- the address is that of the position
abbrev pub IsReceiver : ℕ → Receiver → Option (List ℕ) → FileMessage → Type 0
IsReceiver position receiver found m = position < length m.recipients → receiver ≡ receiver_in m position

-- the window stands behind the position now
abbrev pub IsBehind : ℕ → Seen → Option (List ℕ) → FileMessage → Type 0
IsBehind position w found m = position < length m.recipients → StandsAt found m (position + 1) w

-- where the window stands at the recipient `from`, the answer is the address of the position
abbrev pub GivesReceiver : Bool → View → Spot → Seen → ℕ → ℕ → ℕ → Result Receiver MessageError → Type 0
GivesReceiver tells v spot w from first_at position result =
    IfOk result (λ receiver. TellsFrom tells v spot w from first_at (IsReceiver position receiver))

-- and behind the position the window stands then
abbrev pub MovesBehind : Bool → View → Spot → Seen → ℕ → ℕ → ℕ → Seen → Result Receiver MessageError → Type 0
MovesBehind tells v spot w from first_at position after result =
    OnOk result (TellsFrom tells v spot w from first_at (IsBehind position after))

-- or there is no such position
abbrev pub FindsNone : Bool → View → Spot → Seen → ℕ → ℕ → ℕ → Result Receiver MessageError → Type 0
FindsNone tells v spot w from first_at position result = OnNoMessage result
    (λ place. TellsFrom tells v spot w from first_at (λ found m. IsPast found m position))

-- the addresses are those of the message at these positions
abbrev pub AreNames : List ℕ → List Receiver → List ℕ → Type 0
AreNames positions names bytes = IfSome (queue_file bytes) (λ m. names ≡ map (receiver_in m) positions)
