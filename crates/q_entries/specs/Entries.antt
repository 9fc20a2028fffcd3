-- One entry: the book on disk is changed, and then its line is told.
use Rattle.std.specs.Prelude.{◌≡◌, ◌≢◌, ◌<◌, ◌≤◌, ◌⊎◌, ℕ, List, ◌++◌, length, take}
use Rattle.q_model.specs.declared.entry.Entry.{Entry}
use Rattle.q_model.specs.Book.{Book}
use Rattle.q_model.specs.CutOff.{cut_off}
use Rattle.q_model.specs.Settings.{Table}
use Rattle.q_model.specs.Text.{line}
use Rattle.q_host.specs.View.{LeavesOnly, Remains, View}
use Rattle.q_host.specs.declared.error.HostError.{HostError}
use Rattle.q_host.specs.declared.error.HostError.TheVariants.{Tell}
use Rattle.q_books.specs.HostStands.{HostStands, IsLeftOf, OwnLogs}

-- What a crash within an entry leaves: the book before or after it, some first part of its line,
-- and nothing of that before the book is the one after.
pub record IsWithinEntry (table : Table) (e : Entry) (b k : Book) (before : List ℕ) (c : Remains) : Type 0 where
  pub part : ℕ
  pub short : part ≤ length (line table e)
  pub told : c.told ≡ before ++ take part (line table e)
  pub book : IsLeftOf b c ⊎ IsLeftOf k c
  pub disk_first : 0 < part → IsLeftOf k c

-- The entry was carried out, which made the one book the other, and told.
pub record DoesEntry (table : Table) (e : Entry) (b k : Book) (v w : View) : Type 0 where
  pub told : w.told ≡ v.told ++ line table e
  pub stands : HostStands w k
  pub logs : OwnLogs v.files b → OwnLogs w.files k
  pub moments : LeavesOnly v w (IsWithinEntry table e b k v.told)

-- The host stands for the book before the entry or the one after it. Where disk or memory failed, it may
-- stand for the one after as it was cut off: of a `log` the failure may still be gone after a crash.
abbrev pub StandsAround : Entry → Book → Book → HostError → View → Type 0
StandsAround e b k error w =
    HostStands w b ⊎ HostStands w k ⊎ ((error ≢ Tell) × HostStands w (cut_off e k))

-- The entry was given up: its line is told in part by a failed output alone, and then the book is
-- the one after.
pub record StopsEntry (table : Table) (e : Entry) (b k : Book) (error : HostError) (v w : View) : Type 0 where
  pub part : ℕ
  pub short : part ≤ length (line table e)
  pub told : w.told ≡ v.told ++ take part (line table e)
  pub only_tell : error ≢ Tell → part ≡ 0
  pub stands : StandsAround e b k error w
  pub disk_first : 0 < part → HostStands w k
  pub moments : LeavesOnly v w (IsWithinEntry table e b k v.told)

-- an entry that leaves the book as it is was told
abbrev pub TellsLine : Table → Entry → View → View → Type 0
TellsLine table e v w = (b : Book) → HostStands v b → DoesEntry table e b b v w

-- the telling of an entry that leaves the book as it is was given up
abbrev pub GivesUpLine : Table → Entry → HostError → View → View → Type 0
GivesUpLine table e error v w = (b : Book) → HostStands v b → StopsEntry table e b b error v w
