-- The recipients of a message whose mark isn't set, as they are read from its file.
use Rattle.std.specs.Option.{option_map_or}
use Rattle.std.specs.Prelude.{◌+◌, ◌-◌, ◌≡◌, ◌≤◌, drop, IfSome, length, List, map, not, slice_get, Some, take, ℕ}
use Rattle.q_model.specs.declared.file_head.Cursor.{Cursor}
use Rattle.q_model.specs.Lists.{places_from}
use Rattle.q_model.specs.QueueFile.{FileMessage, queue_file}
use Rattle.q_model.specs.QueueFileBytes.{mark_at, recipient_at}
use Rattle.q_model.specs.Values.{Taken}
use Rattle.q_message.specs.Names.{address_in}

-- the positions from one on whose mark isn't set
abbrev pub unmarked_from : FileMessage → ℕ → List ℕ
unmarked_from m from = places_from from (λ i r. not r.marked) (drop from m.recipients)

-- the recipient of a position
abbrev pub taken_at : FileMessage → ℕ → Taken
taken_at m position = record {
  position = position;
  mark_at = mark_at m position;
  address = address_in m position;
}

-- the first of them, so many at most
abbrev pub taken_from : FileMessage → ℕ → ℕ → List Taken
taken_from m from max = map (taken_at m) (take max (unmarked_from m from))

-- the position behind the last of so many, or behind all recipients where there are fewer
abbrev pub position_behind : FileMessage → ℕ → ℕ → ℕ
position_behind m from max =
    option_map_or (λ position. position + 1) (slice_get (unmarked_from m from) (max - 1)) (length m.recipients)

-- the place of a recipient, or of their end
abbrev pub cursor_at : FileMessage → ℕ → Cursor
cursor_at m position = record { position = position; at = recipient_at m position }

-- The bytes are a queue file of so many recipients, and the cursor is the place of one of them or of
-- their end.
pub record HasCursor (bytes : List ℕ) (recipients : ℕ) (cursor : Cursor) : Type 0 where
  pub message : FileMessage
  pub reads : queue_file bytes ≡ Some message
  pub count : recipients ≡ length message.recipients
  pub place : cursor ≡ cursor_at message cursor.position
  pub within : cursor.position ≤ length message.recipients

-- these are the first pending ones of the message from a position on, so many at most
abbrev pub AreTaken : ℕ → ℕ → List Taken → List ℕ → Type 0
AreTaken from max taken bytes = IfSome (queue_file bytes) (λ m. taken ≡ taken_from m from max)

-- and this is the place behind them
abbrev pub IsPlaceBehind : ℕ → ℕ → Cursor → List ℕ → Type 0
IsPlaceBehind from max next bytes = IfSome (queue_file bytes) (λ m. next ≡ cursor_at m (position_behind m from max))
