-- Entries of a ledger that are carried out and told, one after another, at each moment.
use Rattle.std.specs.Prelude.{◌≡◌, ◌≢◌, ◌<◌, ◌≤◌, ◌⊎◌, ℕ, List, [], ◌∷◌, ◌++◌, length, take}
use Rattle.q_model.specs.declared.entry.Entry.{Entry}
use Rattle.q_model.specs.Book.{Book}
use Rattle.q_model.specs.Ledger.{Ledger}
use Rattle.q_model.specs.Settings.{Table, World}
use Rattle.q_model.specs.Step.{after, after_all}
use Rattle.q_model.specs.Text.{line, text}
use Rattle.q_host.specs.View.{LeavesOnly, Remains, View}
use Rattle.q_host.specs.declared.error.HostError.{HostError}
use Rattle.q_host.specs.declared.error.HostError.TheVariants.{Tell}
use Rattle.q_books.specs.HostStands.{HostStands, IsLeftOf, OwnLogs}
use Rattle.q_entries.specs.Entries.{StandsAround}

-- the line of the next entry, where there is one
abbrev pub next_line : Table → List Entry → List ℕ
next_line table [] = []
next_line table (e ∷ es) = line table e

-- the book after the next entry
abbrev pub next_book : World → Ledger → List Entry → Book
next_book w l [] = l.book
next_book w l (e ∷ es) = (after w l e).book

-- What a crash leaves of a run of these entries: the lines of the first, and some first part of the
-- next one's; the book after the first, or after that one too, and this where any of its line is
-- told.
pub record IsLeftOfRun (w : World) (l : Ledger) (es : List Entry) (before : List ℕ) (c : Remains) : Type 0 where
  pub done : List Entry
  pub rest : List Entry
  pub all : es ≡ done ++ rest
  pub part : ℕ
  pub short : part ≤ length (next_line w.table rest)
  pub told : c.told ≡ (before ++ text w.table done) ++ take part (next_line w.table rest)
  pub book :
      IsLeftOf (after_all w l done).book c ⊎ IsLeftOf (next_book w (after_all w l done) rest) c
  pub disk_first : 0 < part → IsLeftOf (next_book w (after_all w l done) rest) c

-- All were carried out and told.
pub record PlaysRun (w : World) (l : Ledger) (es : List Entry) (u v : View) : Type 0 where
  pub told : v.told ≡ u.told ++ text w.table es
  pub stands : HostStands v (after_all w l es).book
  pub logs : OwnLogs u.files l.book → OwnLogs v.files (after_all w l es).book
  pub moments : LeavesOnly u v (IsLeftOfRun w l es u.told)

-- The host stands for the book around the next entry, where there is one.
abbrev pub StandsAroundNext : World → Ledger → List Entry → HostError → View → Type 0
StandsAroundNext w l [] error v = HostStands v l.book
StandsAroundNext w l (e ∷ es) error v = StandsAround e l.book (after w l e).book error v

-- Some were, and the next was given up: its line is told in part by a failed output alone, and then
-- the book is the one after it.
pub record HaltsRun (w : World) (l : Ledger) (es : List Entry) (error : HostError) (u v : View) : Type 0 where
  pub done : List Entry
  pub rest : List Entry
  pub all : es ≡ done ++ rest
  pub part : ℕ
  pub short : part ≤ length (next_line w.table rest)
  pub told : v.told ≡ (u.told ++ text w.table done) ++ take part (next_line w.table rest)
  pub only_tell : error ≢ Tell → part ≡ 0
  pub stands : StandsAroundNext w (after_all w l done) rest error v
  pub disk_first : 0 < part → HostStands v (next_book w (after_all w l done) rest)
  pub moments : LeavesOnly u v (IsLeftOfRun w l es u.told)
