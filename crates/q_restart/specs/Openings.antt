-- What opening a spool does: a life begins on the book that its files stand for.
use Rattle.std.specs.Prelude.{◌≡◌, ◌+◌, ◌-◌, ◌^◌, ◌<◌, ◌≤◌, Err, false, IsErrOf, List, map, None, Ok, Result, true, ℕ}
use Rattle.q_model.specs.declared.id.Id.{Id}
use Rattle.q_model.specs.declared.spot.Area.TheVariants as areas
use Rattle.q_model.specs.Book.{Book, stands}
use Rattle.q_model.specs.FaultCounts.{Rose}
use Rattle.q_model.specs.IdTexts.{id_text, IsId}
use Rattle.q_model.specs.Lives.{firm_failures}
use Rattle.q_model.specs.Orderly.{is_orderly}
use Rattle.q_model.specs.declared.spot.Area.{Area}
use Rattle.q_model.specs.SpoolFiles.{Files}
use Rattle.q_host.specs.Calls.{Stays}
use Rattle.q_host.specs.Faults.{Faults}
use Rattle.q_host.specs.View.{View}
use Rattle.q_books.specs.HostStands.{HostStands, OwnLogs, Takes, Tries}
use Rattle.q_restart.specs.declared.error.OpenError.{OpenError}
use Rattle.q_restart.specs.declared.error.OpenError.TheVariants as errors
use Rattle.q_restart.specs.declared.opening.Spool.{Spool}
use Rattle.q_restart.specs.Damages.{CannotBegin, IsDamage}
use Rattle.q_restart.specs.Clearings.{IsEmpty}

-- the book with which a life begins: one generation more, and what was read is sure
abbrev pub begun : Book → Book
begun b = record b { generation = b.generation + 1; messages = map firm_failures b.messages }

-- the deferral logs of the ids of a book are as before, and there are no others
pub record KeepsOwnNotes (b : Book) (f g : Files) : Type 0 where
  pub own : (id : Id) → IsId id → stands b id ≡ true
      → g areas.Defer (id_text id) ≡ f areas.Defer (id_text id)
  pub others : (id : Id) → IsId id → stands b id ≡ false → g areas.Defer (id_text id) ≡ None

-- The spool of this book was opened under this generation.
pub record Opens (b : Book) (generation : ℕ) (v w : View) : Type 0 where
  pub is_next : generation ≡ b.generation + 1
  pub takes : Takes b (begun b) v w
  pub logs : OwnLogs w.files (begun b)
  pub notes : KeepsOwnNotes b v.files w.files
  pub tmp : IsEmpty w.files areas.Tmp

-- whatever book the host stood for, the spool of that book was opened under this generation
abbrev pub OpensUnder : ℕ → View → View → Type 0
OpensUnder generation v w = (b : Book) → HostStands v b → Opens b generation v w

-- whatever book it stood for, it stands for that one or the one with which a life begins
abbrev pub TriesToBegin : View → View → Type 0
TriesToBegin v w = (b : Book) → HostStands v b → Tries b (begun b) v w

-- Where no life can begin, nothing was told or changed.
abbrev pub LeavesUnbegun : View → View → Type 0
LeavesUnbegun v w = CannotBegin v.files → Stays v w

-- the answers that say something of the spool: it is damaged, or every generation was used
abbrev pub IsRefusal : Result Spool OpenError → Type 0
IsRefusal (Ok spool) = ⊥
IsRefusal (Err errors.Disk) = ⊥
IsRefusal (Err errors.NoMemory) = ⊥
IsRefusal (Err (errors.Damaged area name)) = Unit {0}
IsRefusal (Err errors.Spent) = Unit {0}

-- the answers that find no damage
abbrev pub IsAccepted : Result Spool OpenError → Type 0
IsAccepted (Ok spool) = Unit {0}
IsAccepted (Err errors.Disk) = ⊥
IsAccepted (Err errors.NoMemory) = ⊥
IsAccepted (Err (errors.Damaged area name)) = ⊥
IsAccepted (Err errors.Spent) = Unit {0}

-- where the answer names a file as damaged, it is
abbrev pub NamesDamage : Files → Result Spool OpenError → Type 0
NamesDamage f result =
    (area : Area) (name : List ℕ) → result ≡ Err (errors.Damaged area name) → IsDamage f area name

-- no orderly book below the last generation is refused
abbrev pub AcceptsOrderly : View → Result Spool OpenError → Type 0
AcceptsOrderly v result = (b : Book) → HostStands v b → is_orderly b ≡ true
    → b.generation < 2 ^ 32 - 1 → IsRefusal result → ⊥

-- `Disk` comes only where the count of disk faults rose, and neither count falls
pub record OpenCause (before after : Faults) (result : Result Spool OpenError) : Type 0 where
  pub disk_later : before.disk ≤ after.disk
  pub tell_later : before.tell ≤ after.tell
  pub disk : IsErrOf result errors.Disk → Rose before.disk after.disk
