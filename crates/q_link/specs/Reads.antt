-- What a read and a write do to a link.
use Rattle.std.specs.Prelude.{◌+◌, ◌++◌, ◌≡◌, ◌≤◌, length, List, Option, Some, take, true, ℕ}
pub use Rattle.q_model.specs.FaultCounts.{Rose}
use Rattle.q_link.specs.declared.link.Got.{Got}
use Rattle.q_link.specs.declared.link.Got.TheVariants as got
use Rattle.q_link.specs.declared.link.Put.{Put}
use Rattle.q_link.specs.declared.link.Put.TheVariants as put
use Rattle.q_link.specs.Usages.{usage_called, usage_closed}
use Rattle.q_link.specs.Views.{ForRead, ForWrite, NoWait, Told, View, Wait}
use Rattle.q_link.specs.WaitsLeft.{Spares, waits_spent}

-- Where it still tells, it told before, and this was added.
abbrev pub Adds : (Told → Told) → Option Told → Option Told → Type 0
Adds change old new = (now : Told) → new ≡ Some now
    → (before : Told) × (old ≡ Some before) × (now ≡ change before)

abbrev pub same : Told → Told
same t = t

abbrev pub with_received : List ℕ → Told → Told
with_received bytes t = record t { received = t.received ++ bytes }

abbrev pub with_sent : List ℕ → Told → Told
with_sent bytes t = record t { sent = t.sent ++ bytes }

abbrev pub with_not_yet : Told → Told
with_not_yet t = record t { not_yets = t.not_yets + 1 }

-- a call that leaves the link waiting so, and told more by this
pub record Leaves (waiting : Wait) (change : Told → Told) (old new : View) : Type 0 where
  pub faults : new.faults ≡ old.faults
  pub wait : new.wait ≡ waiting
  pub ended : new.ended ≡ old.ended
  pub usage : new.usage ≡ usage_called old.usage
  pub waits_left : Spares (waits_spent waiting) old.waits_left new.waits_left
  pub told : Adds change old.told new.told

-- the end was reached, and nothing came
pub record Ends (old new : View) : Type 0 where
  pub faults : new.faults ≡ old.faults
  pub wait : new.wait ≡ NoWait
  pub ended : new.ended ≡ true
  pub usage : new.usage ≡ usage_closed old.usage
  pub told : Adds same old.told new.told

-- the call failed, which is counted, and nothing came or went
pub record Fails (old new : View) : Type 0 where
  pub faults : (old.faults ≤ new.faults) × Rose old.faults new.faults
  pub wait : new.wait ≡ NoWait
  pub ended : new.ended ≡ old.ended
  pub usage : new.usage ≡ usage_closed old.usage
  pub told : Adds same old.told new.told

-- a read into the front of a buffer
abbrev pub Reads : View → View → Got → List ℕ → Type 0
Reads old new (got.Took n) buf =
    (1 ≤ n) × (n ≤ length buf) × Leaves NoWait (with_received (take n buf)) old new
Reads old new got.NotYet buf = Leaves ForRead with_not_yet old new
Reads old new got.End buf = Ends old new
Reads old new got.Failed buf = Fails old new

-- a write of the front of some bytes
abbrev pub Writes : View → View → Put → List ℕ → Type 0
Writes old new (put.Gave n) bytes =
    (1 ≤ n) × (n ≤ length bytes) × Leaves NoWait (with_sent (take n bytes)) old new
Writes old new put.NotYet bytes = Leaves ForWrite with_not_yet old new
Writes old new put.Failed bytes = Fails old new
