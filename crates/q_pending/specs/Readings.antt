-- What a reader of pending recipients gives.
use Rattle.std.specs.Prelude.{◌++◌, ◌≡◌, ◌≤◌, ◌∷◌, ◌+◌, ◌-◌, [], drop, filter, IfSome, IsSome, length, List, map, None, not, Option, Some, ℕ}
use Rattle.q_books.specs.Spots.{spot_of}
use Rattle.q_logfile.specs.Flags.{flag_at}
use Rattle.q_message.specs.Pending.{HasCursor, taken_at, unmarked_from}
use Rattle.q_model.specs.FilesStand.{file_message, MessageStands}
use Rattle.q_model.specs.Message.{address_at, Message}
use Rattle.q_model.specs.SpoolFiles.{Files}
use Rattle.q_model.specs.Values.{Spot, Taken}
use Rattle.q_pending.specs.declared.pending.Pending.{Pending}

-- the message's file stands at the spot
pub record IsFileOfMessage (f : Files) (m : Message) (s : Spot) : Type 0 where
  pub stands : MessageStands f m
  pub spot : s ≡ spot_of m.place m.id

-- the reader can go on while the files are these
pub record IsReading (f : Files) (p : Pending) : Type 0 where
  pub room : 1 ≤ p.batch.room
  pub there : IsSome (f p.spot.area p.spot.name)
  pub cursor : IfSome (f p.spot.area p.spot.name) (λ bytes. HasCursor bytes p.recipients p.next)

-- the recipients at these positions, one behind another, are those that the reader will come to
pub record IsUnmarkedAhead (f : Files) (m : Message) (p : Pending) (positions : List ℕ) : Type 0 where
  pub file : IsFileOfMessage f m p.spot
  pub read : List ℕ
  pub items : drop p.index p.batch.items ≡ map (taken_at (file_message m)) read
  pub all : positions ≡ read ++ unmarked_from (file_message m) p.next.position

-- The reader will give these positions of the message, one behind another, while the files are these.
pub record IsPendingAhead (f : Files) (m : Message) (p : Pending) (positions : List ℕ) : Type 0 where
  pub unmarked : List ℕ
  pub ahead : IsUnmarkedAhead f m p unmarked
  pub not_logged : positions ≡ filter (λ i. not (flag_at p.logged.items i)) unmarked

-- this is the recipient of the position
pub record IsRecipientAt (m : Message) (p : ℕ) (taken : Taken) : Type 0 where
  pub position : taken.position ≡ p
  pub address : taken.address ≡ address_at m p

-- Of the positions that are ahead the first is given, and the rest stays ahead.
abbrev pub GivesPending : Files → Message → Pending → List ℕ → Option Taken → Type 0
GivesPending f m p positions None = positions ≡ []
GivesPending f m p positions (Some taken) = (position : ℕ) × (rest : List ℕ)
    × (positions ≡ position ∷ rest) × IsRecipientAt m position taken × IsPendingAhead f m p rest

-- the same of those that the reader will come to
abbrev pub GivesUnmarked : Files → Message → Pending → List ℕ → Option Taken → Type 0
GivesUnmarked f m p positions None = positions ≡ []
GivesUnmarked f m p positions (Some taken) = (rest : List ℕ)
    × (positions ≡ taken.position ∷ rest) × (taken.address ≡ address_at m taken.position)
    × IsUnmarkedAhead f m p rest

-- whatever was ahead of the one reader is ahead of the other
abbrev pub KeepsAhead : Files → Pending → Pending → Type 0
KeepsAhead f p q = (m : Message) (positions : List ℕ) → IsUnmarkedAhead f m p positions
    → IsUnmarkedAhead f m q positions

-- nothing is ahead of the reader
abbrev pub HasNoneAhead : Files → Pending → Type 0
HasNoneAhead f p = (m : Message) (positions : List ℕ) → IsUnmarkedAhead f m p positions → positions ≡ []

-- how many recipients the reader may still come to, whatever the files are
abbrev pub pending_left : Pending → ℕ
pending_left p = p.recipients - p.next.position + (length p.batch.items - p.index)
