-- A message, and which of its recipients are done.
use Rattle.std.specs.List.{list_any}
use Rattle.std.specs.Option.{option_and_then, option_map_or}
use Rattle.std.specs.Prelude.{◌&&◌, ◌==◌, [], Bool, List, not, Option, slice_get, ◌||◌, ℕ}
use Rattle.q_model.specs.declared.id.Id.{Id}
use Rattle.q_model.specs.declared.outcome.Failure.{Failure}
use Rattle.q_model.specs.declared.rows.Mark.{Mark}
use Rattle.q_model.specs.declared.rows.Place.{Place}
use Rattle.q_model.specs.Lists.{places_from}
use Rattle.q_model.specs.Marks.{is_marked, is_written}
use Rattle.q_model.specs.Values.{Receiver}
use Rattle.q_model.specs.declared.rows.Mark.TheVariants as marks

-- a recipient: an address, the one that the sender wrote where that is another, and a mark
pub record Recipient : Type 0 where
  pub address : List ℕ
  pub original : Option (List ℕ)
  pub mark : Mark

-- a recipient of which nothing was delivered yet
abbrev pub new_recipient : Receiver → Recipient
new_recipient r = record { address = r.address; original = r.original; mark = marks.Unmarked }

-- a recipient without its mark
abbrev pub receiver_of : Recipient → Receiver
receiver_of r = record { address = r.address; original = r.original }

-- a failure of the log; one that isn't firm may be gone after a crash
pub record Logged : Type 0 where
  pub failure : Failure
  pub firm : Bool

-- A message; the null sender is None, and positions of recipients count from 0. `version` is the version
-- of its queue file, which stays as long as the message stands.
pub record Message : Type 0 where
  pub id : Id
  pub version : ℕ
  pub sender : Option (List ℕ)
  pub arrival : ℕ
  pub content : List ℕ
  pub recipients : List Recipient
  pub failures : List Logged
  pub place : Place

-- the failure log of m has this position
abbrev pub is_logged : Message → ℕ → Bool
is_logged m position = list_any (λ f. f.failure.position == position) m.failures

-- the positions that are pending: neither marked nor logged
abbrev pub pending : Message → List ℕ
pending m = places_from 0 (λ i r. not (is_marked r.mark || is_logged m i)) m.recipients

-- the positions that are logged and not marked
abbrev pub unmarked_logged : Message → List ℕ
unmarked_logged m = places_from 0 (λ i r. not (is_marked r.mark) && is_logged m i) m.recipients

-- the positions whose marks a crash may still lose
abbrev pub written_marks : Message → List ℕ
written_marks m = places_from 0 (λ i r. is_written r.mark) m.recipients

-- the address of a position
abbrev pub address_at : Message → ℕ → List ℕ
address_at m position = option_map_or (λ r. r.address) (slice_get m.recipients position) []

-- the original address of a position, where it has one
abbrev pub original_at : Message → ℕ → Option (List ℕ)
original_at m position = option_and_then (λ r. r.original) (slice_get m.recipients position)
