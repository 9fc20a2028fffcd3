-- How far preemption may delay a job, as a tally counts it.
use Rattle.std.specs.List.{list_all}
use Rattle.std.specs.Prelude.{◌*◌, ◌++◌, ◌-◌, ◌≡◌, ◌<◌, ◌≢◌, ◌≤◌, ◌^◌, length, List, Some, true, ℕ, ◌∷◌}
use Rattle.q_fronts.specs.Fronts.{IsFront, IsLedgerAfter}
use Rattle.q_laws.specs.Consistency.{IsUsable}
use Rattle.q_model.specs.declared.entry.Entry.{Entry}
use Rattle.q_model.specs.declared.id.Id.{Id}
use Rattle.q_model.specs.Book.{message_of}
use Rattle.q_model.specs.Ledger.{Ledger}
use Rattle.q_model.specs.Message.{Message}
use Rattle.q_model.specs.PreemptingStarts.{preempting_starts}
use Rattle.q_model.specs.Settings.{World}
use Rattle.q_tallies.specs.Exact.{counted_all, fresh, leaves_job}
use Rattle.q_tallies.specs.Ways.{capped_sum}
use Rattle.q_model.specs.declared.entry.Entry.TheVariants as entries

-- Entries of a run on an empty spool: those before the one by which a message comes into memory, those that
-- leave its job at a transport alone, and those of which the tally was kept.
pub record IsTalliedAt (w : World) (m : Message) (id : Id) (transport : ℕ) (fs : List Entry) : Type 0 where
  pub usable : IsUsable w
  pub first : Entry
  pub before : List Entry
  pub quiet : List Entry
  pub ledger : Ledger
  pub behind : IsLedgerAfter w (first ∷ before) ledger
  pub message : message_of ledger.book id ≡ Some m
  pub leaves : list_all (leaves_job id transport) quiet ≡ true
  pub front : IsFront w ((first ∷ before) ++ (entries.Admit id ∷ (quiet ++ fs)))

-- Then the count, times the slot cost less one, is at most the recipients of the message.
abbrev pub IsCountBounded : Type 0
IsCountBounded = (w : World) (m : Message) (id : Id) (transport : ℕ) (fs : List Entry)
    → IsTalliedAt w m id transport fs
    → (counted_all capped_sum id transport fs fresh).count * (w.settings.slot_cost - 1) ≤ length m.recipients

-- And it is the whole number, where a slot doesn't cost 1 and the message has fewer than 2^64 recipients.
abbrev pub IsCountWhole : Type 0
IsCountWhole = (w : World) (m : Message) (id : Id) (transport : ℕ) (fs : List Entry)
    → IsTalliedAt w m id transport fs → w.settings.slot_cost ≢ 1 → length m.recipients < 2 ^ 64
    → (counted_all capped_sum id transport fs fresh).count ≡ preempting_starts id transport fs
