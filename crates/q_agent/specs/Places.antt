-- Places of slots. No public clause cites this module.
use Rattle.std.specs.List.Sorted.{IsPartitionPoint}
use Rattle.std.specs.Option.{option_or}
use Rattle.std.specs.Prelude.{◌<◌, ◌≡◌, ◌≤◌, find, length, List, nat_lt, slice_get, Some, ℕ}
use Rattle.q_agent.specs.declared.slot.Slot.{Slot}

-- the slots before this place are of at most this number, and the others above it
abbrev pub Parts : ℕ → List Slot → ℕ → Type 0
Parts number slots place = IsPartitionPoint (λ (e : Slot). e.number ≤ number) (λ (e : Slot). number < e.number) slots place

-- the slot at this place is the first above a number, or where none is, the first of all
pub record IsNext (polled : ℕ) (slots : List Slot) (place : ℕ) (slot : Slot) : Type 0 where
  pub within : place < length slots
  pub stands : slice_get slots place ≡ Some slot
  pub next : option_or (find (λ (e : Slot). nat_lt polled e.number) slots) (slice_get slots 0) ≡ Some slot
