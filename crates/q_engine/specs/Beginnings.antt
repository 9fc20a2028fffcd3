-- The beginning of a life on a spool, and its end.
use Rattle.std.specs.Prelude.{◌≡◌, ◌+◌, Bool, false, true}
use Rattle.q_model.specs.declared.entry.Entry.{Entry}
use Rattle.q_model.specs.declared.entry.Entry.TheVariants as entries
use Rattle.q_model.specs.declared.event.Mode.{Mode}
use Rattle.q_model.specs.Book.{all_ids, Book}
use Rattle.q_model.specs.Ids.{are_distinct}
use Rattle.q_model.specs.Orderly.{is_orderly}
use Rattle.q_model.specs.Settings.{Settings, World}
use Rattle.q_model.specs.Step.{after}
use Rattle.q_model.specs.declared.limits.Bound.TheVariants as bounds
use Rattle.q_host.specs.View.{View}
use Rattle.q_host.specs.declared.error.HostError.{HostError}
use Rattle.q_books.specs.HostStands.{HostStands}
use Rattle.q_entries.specs.Entries.{DoesEntry, StopsEntry}
use Rattle.q_laws.specs.Laws.{opened_ledger}
use Rattle.q_restart.specs.Openings.{begun, KeepsOwnNotes}
use Rattle.q_restart.specs.declared.error.OpenError.{OpenError}
use Rattle.q_restart.specs.declared.error.OpenError.TheVariants as open_errors
use Rattle.q_transport.specs.Contents.{Contents}
use Rattle.q_restart.specs.Judgements.{IsRefusalOfSome}
use Rattle.q_transport.specs.Routing.{table_of}
use Rattle.q_engine.specs.Looks.{ForStands}
use Rattle.q_engine.specs.Stands.{EngineStands}
use Rattle.q_engine.specs.declared.engine.Engine.{Engine}
use Rattle.q_engine.specs.declared.error.EngineError.{EngineError}
use Rattle.q_engine.specs.declared.error.EngineError.TheVariants as errors

-- what becomes of a refusal to open the spool
abbrev pub opening_refusal : OpenError → EngineError
opening_refusal open_errors.Disk = errors.Disk
opening_refusal open_errors.NoMemory = errors.NoMemory
opening_refusal (open_errors.Damaged area name) = errors.Damaged area name
opening_refusal open_errors.Spent = errors.Limit bounds.Generation

-- the refusal says something of the spool
abbrev pub is_of_spool : EngineError → Bool
is_of_spool (errors.Damaged area name) = true
is_of_spool (errors.Limit bound) = true
is_of_spool _ = false

-- A refusal of the spool is one that some names of boot and some files of the queues have, whether the
-- host tells its own or not.
abbrev pub IsRefusalOfSomeSpool : EngineError → Type 0
IsRefusalOfSomeSpool (errors.Damaged area name) = IsRefusalOfSome (open_errors.Damaged area name)
IsRefusalOfSomeSpool (errors.Limit bound) = (bound ≡ bounds.Generation) × IsRefusalOfSome open_errors.Spent
IsRefusalOfSomeSpool _ = Unit {0}

-- the first entry of a life on a book
abbrev pub first_entry : Book → Mode → Entry
first_entry b mode = entries.Life (b.generation + 1) mode

-- in each world with these settings and this table
abbrev pub InWorlds : Settings → Contents → (World → Type 0) → Type 0
InWorlds params table says = (w : World) → params ≡ w.settings → w.table ≡ table_of table → says w

-- where no id stands twice in the book, and it is orderly
abbrev pub IfOrderly : Book → Type 0 → Type 0
IfOrderly b P = are_distinct (all_ids b) ≡ true → is_orderly b ≡ true → P

-- A life began on the book: its first entry was carried out and told, and engine and host stand for
-- the ledger after it.
pub record BeganLife (params : Settings) (table : Contents) (mode : Mode) (b : Book) (engine : Engine)
    (v x : View) : Type 0 where
  pub does : DoesEntry (table_of table) (first_entry b mode) b (begun b) v x
  pub stands : IfOrderly b (InWorlds params table
      (λ w. EngineStands w engine x (opened_ledger w mode b)))
  pub logs : KeepsOwnNotes b v.files x.files

-- the same of each book for which the host stood
abbrev pub BeginsLife : Settings → Contents → Mode → Engine → View → View → Type 0
BeginsLife params table mode engine v x =
    (b : Book) → HostStands v b → BeganLife params table mode b engine v x

-- the life didn't begin, or its line wasn't told whole
abbrev pub StopsBeginning : Contents → Mode → HostError → View → View → Type 0
StopsBeginning table mode error v x = (b : Book) → HostStands v b
    → StopsEntry (table_of table) (first_entry b mode) b (begun b) error v x

-- the end of the life was told
abbrev pub EndsLife : Engine → View → View → Type 0
EndsLife engine v x = ForStands engine v
    (λ w l. DoesEntry w.table entries.End l.book (after w l entries.End).book v x)

-- it was not, or not whole
abbrev pub StopsEnding : Engine → HostError → View → View → Type 0
StopsEnding engine error v x = ForStands engine v
    (λ w l. StopsEntry w.table entries.End l.book (after w l entries.End).book error v x)
