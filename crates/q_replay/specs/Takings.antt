-- What an item of an event list does to a life, or why it isn't taken.
use Rattle.std.specs.Option.{option_map_or}
use Rattle.std.specs.Prelude.{◌≡◌, ◌≤◌, [], Bool, false, IfSome, IsErrOf, List, None, Option, Result, Some, true, ℕ}
use Rattle.q_books.specs.HostStands.{HostStands}
use Rattle.q_engine.specs.KeptNotes.{AddsAllNotes}
use Rattle.q_engine.specs.Looks.{ForStands}
use Rattle.q_engine.specs.Stands.{EngineStands}
use Rattle.q_engine.specs.declared.engine.Engine.{Engine}
use Rattle.q_engine.specs.declared.error.EngineError.{EngineError}
use Rattle.q_engine.specs.declared.error.EngineError.TheVariants as engine_errors
use Rattle.q_entries.specs.Runs.{HaltsRun, PlaysRun}
use Rattle.q_events.specs.declared.list_item.ListItem.{ListItem}
use Rattle.q_events.specs.declared.error.EventError.{EventError}
use Rattle.q_events.specs.declared.error.EventError.TheVariants as event_errors
use Rattle.q_events.specs.declared.list_item.ListItem.TheVariants.{Restart}
use Rattle.q_host.specs.Faults.{Faults}
use Rattle.q_host.specs.View.{View}
use Rattle.q_host.specs.declared.error.HostError.{HostError}
use Rattle.q_host.specs.declared.error.HostError.TheVariants as faults
use Rattle.q_model.specs.FaultCounts.{Rose}
use Rattle.q_model.specs.Ledger.{Ledger}
use Rattle.q_model.specs.Orderly.{is_orderly}
use Rattle.q_model.specs.Run.{turn}
use Rattle.q_model.specs.Settings.{Settings, World}
use Rattle.q_model.specs.Step.{after_all}
use Rattle.q_model.specs.declared.entry.Entry.{Entry}
use Rattle.q_model.specs.declared.event.Mode.{Mode}
use Rattle.q_model.specs.declared.event.Mode.TheVariants.{Deliver}
use Rattle.q_model.specs.declared.spot.Area.{Area}
use Rattle.q_replay.specs.Reading.{event_of, refusal_at}
use Rattle.q_replay.specs.declared.error.ReplayError.{ReplayError}
use Rattle.q_replay.specs.declared.error.ReplayError.TheVariants as errors
use Rattle.q_restart.specs.Damages.{IsDamage}
use Rattle.q_transport.specs.Contents.{Contents}
use Rattle.q_transport.specs.Routing.{table_of}

-- what becomes of the engine's refusal of an item in this line
abbrev pub replay_error : ℕ → EngineError → ReplayError
replay_error line engine_errors.Disk = errors.Disk
replay_error line engine_errors.Tell = errors.Tell
replay_error line engine_errors.NoMemory = errors.NoMemory
replay_error line (engine_errors.Unknown number) = errors.BadEvent line
replay_error line (engine_errors.WrongCount number want got) = errors.BadEvent line
replay_error line engine_errors.Untimed = errors.BadEvent line
replay_error line (engine_errors.Limit bound) = errors.Limit bound
replay_error line (engine_errors.Damaged area name) = errors.Damaged area name
replay_error line (engine_errors.Unreadable area name) = errors.Unreadable area name

-- the entries of an item
abbrev pub entries_at : World → Ledger → ListItem → List Entry
entries_at w l item = turn w l (event_of item)

-- The item was taken: its turn was carried out and told, and the life that goes on stands for what
-- it led to.
pub record TookItem (w : World) (l : Ledger) (item : ListItem) (next : Option Engine) (u v : View)
    : Type 0 where
  pub accepted : refusal_at l item ≡ None
  pub plays : PlaysRun w l (entries_at w l item) u v
  pub notes : AddsAllNotes w l (entries_at w l item) u.files v.files
  pub stands : IfSome next
      (λ engine. EngineStands w engine v (after_all w l (entries_at w l item)))

-- The item was refused, and nothing was done.
pub record RefusedItem (w : World) (l : Ledger) (item : ListItem) (line : ℕ) (error : ReplayError) (u v : View)
    : Type 0 where
  pub why : EngineError
  pub refused : refusal_at l item ≡ Some why
  pub names : error ≡ replay_error line why
  pub stays : PlaysRun w l [] u v
  pub files : v.files ≡ u.files

-- the entries of an item that isn't refused
abbrev pub entries_taken : World → Ledger → ListItem → List Entry
entries_taken w l item = option_map_or (λ (why : EngineError). []) (refusal_at l item) (entries_at w l item)

-- The host gave up, somewhere in the item's turn.
abbrev pub HaltsItem : World → Ledger → ListItem → HostError → View → View → Type 0
HaltsItem w l item error u v = HaltsRun w l (entries_taken w l item) error u v

-- The spool was found damaged, and nothing was done. An orderly book is found so only where no
-- generation is left.
pub record FoundDamaged (w : World) (l : Ledger) (item : ListItem) (area : Area) (name : List ℕ) (u v : View)
    : Type 0 where
  pub damage : IsDamage v.files area name
  pub refused : (why : EngineError) × (refusal_at l item ≡ Some why)
  pub stays : PlaysRun w l [] u v
  pub files : v.files ≡ u.files

-- the item wasn't taken, or not whole; where the host tells, each queue file can be read
abbrev pub NotTaken : World → Ledger → ListItem → ℕ → ReplayError → View → View → Type 0
NotTaken w l item line errors.Disk u v = HaltsItem w l item faults.Disk u v
NotTaken w l item line errors.Tell u v = HaltsItem w l item faults.Tell u v
NotTaken w l item line errors.NoMemory u v = HaltsItem w l item faults.NoMemory u v
NotTaken w l item line errors.Source u v = ⊥
NotTaken w l item line (errors.Damaged area name) u v = FoundDamaged w l item area name u v
NotTaken w l item line (errors.BadEvent n) u v = RefusedItem w l item line (errors.BadEvent n) u v
NotTaken w l item line (errors.Limit bound) u v = RefusedItem w l item line (errors.Limit bound) u v
NotTaken w l item line (errors.Unreadable area name) u v = ⊥

-- of each ledger for which engine and host stand
abbrev pub TakesItem : Engine → ListItem → Option Engine → View → View → Type 0
TakesItem engine item next u v = ForStands engine u (λ w l. TookItem w l item next u v)

abbrev pub GivesUpItem : Engine → ListItem → ℕ → ReplayError → View → View → Type 0
GivesUpItem engine item line error u v = ForStands engine u (λ w l. NotTaken w l item line error u v)

-- the same where the ledger goes by these settings, and its life delivers
abbrev pub ForDelivering : Settings → Engine → View → (World → Ledger → Type 0) → Type 0
ForDelivering params engine u says =
    ForStands engine u (λ w l. params ≡ w.settings → l.mode ≡ Deliver → says w l)

abbrev pub TakesNext : Settings → Engine → ListItem → Option Engine → View → View → Type 0
TakesNext params engine item next u v =
    ForDelivering params engine u (λ w l. TookItem w l item next u v)

abbrev pub GivesUpNext : Settings → Engine → ListItem → ℕ → ReplayError → View → View → Type 0
GivesUpNext params engine item line error u v =
    ForDelivering params engine u (λ w l. NotTaken w l item line error u v)

-- a life may begin in this mode, by these settings and this table, on the book that the host stands
-- for
pub record MayBegin (params : Settings) (table : Contents) (mode : Mode) (w : World) (l : Ledger) (u : View) : Type 0 where
  pub host : HostStands u l.book
  pub orderly : is_orderly l.book ≡ true
  pub mode_is : l.mode ≡ mode
  pub settings : params ≡ w.settings
  pub table_is : w.table ≡ table_of table

-- of each ledger with whose book a life may begin
abbrev pub BeginsAnew : Settings → Contents → Mode → Engine → View → View → Type 0
BeginsAnew params table mode engine u v = (w : World) → (l : Ledger)
    → MayBegin params table mode w l u
    → TookItem w l Restart (Some engine) u v

abbrev pub NeverBegins : Settings → Contents → Mode → ℕ → ReplayError → View → View → Type 0
NeverBegins params table mode line error u v = (w : World) → (l : Ledger)
    → MayBegin params table mode w l u
    → NotTaken w l Restart line error u v

-- why the list has no next item
abbrev pub list_error : EventError → ReplayError
list_error event_errors.NoMemory = errors.NoMemory
list_error event_errors.Source = errors.Source
list_error (event_errors.BadEvent line) = errors.BadEvent line
list_error (event_errors.Limit bound) = errors.Limit bound

-- a queue file can't be read any longer
abbrev pub is_unreadable : ReplayError → Bool
is_unreadable (errors.Unreadable area name) = true
is_unreadable _ = false

-- no count of faults fell, and a fault of the host comes only where its count rose
pub record ReplayCause {T : Type 0} (before after : Faults) (result : Result T ReplayError) : Type 0 where
  pub disk_later : before.disk ≤ after.disk
  pub tell_later : before.tell ≤ after.tell
  pub disk : IsErrOf result errors.Disk → Rose before.disk after.disk
  pub tell : IsErrOf result errors.Tell → Rose before.tell after.tell
