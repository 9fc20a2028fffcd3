-- Which recipients of a queue file a read takes.
use Rattle.std.specs.List.{filter}
use Rattle.std.specs.Option.{option_map_or}
use Rattle.std.specs.Prelude.{◌+◌, ◌-◌, ◌≡◌, ◌≤◌, IfSome, length, List, map, nat_le, slice_get, take, ℕ}
use Rattle.q_model.specs.QueueFile.{FileMessage, queue_file}
use Rattle.q_model.specs.Values.{Taken}
use Rattle.q_message.specs.Pending.{taken_at, unmarked_from}

-- the positions from one on whose mark isn't set
abbrev pub open_from : FileMessage → ℕ → List ℕ
open_from m from = filter (nat_le from) (unmarked_from m 0)

-- the position behind so many of them, or behind all recipients where there are fewer
abbrev pub open_end : FileMessage → ℕ → ℕ → ℕ
open_end m from max =
    option_map_or (λ p. p + 1) (slice_get (open_from m from) (max - 1)) (length m.recipients)

-- behind this place there are just those from a position on
abbrev pub LeavesFrom : ℕ → ℕ → List ℕ → Type 0
LeavesFrom from place bytes = IfSome (queue_file bytes)
    (λ m. unmarked_from m place ≡ open_from m from)

-- the first of them were read, so many at most and one at least, up to this position
pub record IsReadUpTo (m : FileMessage) (from max : ℕ) (taken : List Taken) (to : ℕ) : Type 0 where
  pub some : 1 ≤ max
  pub taken_are : taken ≡ map (taken_at m) (take max (open_from m from))
  pub end : to ≡ open_end m from max

abbrev pub AreRead : ℕ → ℕ → List Taken → ℕ → List ℕ → Type 0
AreRead from max taken to bytes = IfSome (queue_file bytes) (λ m. IsReadUpTo m from max taken to)
