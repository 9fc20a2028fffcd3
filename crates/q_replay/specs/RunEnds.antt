-- How a command ends that takes items through lives: what its answer says of them, and of what was
-- told.
use Rattle.std.specs.Prelude.{◌≡◌, ◌++◌, [], Err, List, Ok, Result}
use Rattle.q_books.specs.Notes.{notes_after}
use Rattle.q_engine.specs.KeptNotes.{ReadsAsNotes, was_admitted}
use Rattle.q_entries.specs.Runs.{HaltsRun, PlaysRun}
use Rattle.q_host.specs.View.{View}
use Rattle.q_host.specs.declared.error.HostError.{HostError}
use Rattle.q_host.specs.declared.error.HostError.TheVariants as faults
use Rattle.q_model.specs.Book.{Book}
use Rattle.q_model.specs.Ledger.{Ledger, opening}
use Rattle.q_model.specs.Run.{run}
use Rattle.q_model.specs.Settings.{World}
use Rattle.q_model.specs.SpoolFiles.{Files}
use Rattle.q_model.specs.Step.{after_all}
use Rattle.q_model.specs.declared.entry.Entry.{Entry}
use Rattle.q_model.specs.declared.event.LifeEvent.{LifeEvent}
use Rattle.q_model.specs.declared.event.Mode.{Mode}
use Rattle.q_model.specs.declared.id.Id.{Id}
use Rattle.q_replay.specs.Reading.{ended, faulty, items_in, limited, TakenItems}
use Rattle.q_replay.specs.declared.error.ReplayError.{ReplayError}
use Rattle.q_replay.specs.declared.error.ReplayError.TheVariants as errors
use Rattle.q_restart.specs.Damages.{IsDamage}

-- the entries of these items, the first of which begins a life in this mode on the book
abbrev pub entries_on : World → Mode → Book → List LifeEvent → List Entry
entries_on w mode b items = run w (opening mode b) items

-- Each message that these entries admitted and removed no more stands in the book, and its deferral
-- log reads as its notes: the delays since its last admission, in order.
abbrev pub NotesStand : World → Ledger → List Entry → Files → Type 0
NotesStand w l es f = (id : Id)
    → ReadsAsNotes (after_all w l es).book (was_admitted es id) id (notes_after w l es id []) f

-- they were carried out and told, and the notes of each message were stored
pub record IsTold (w : World) (mode : Mode) (b : Book) (items : List LifeEvent) (u v : View)
    : Type 0 where
  pub plays : PlaysRun w (opening mode b) (entries_on w mode b items) u v
  pub notes : NotesStand w (opening mode b) (entries_on w mode b items) v.files

-- they were up to one that was given up
abbrev pub IsToldInPart : World → Mode → Book → List LifeEvent → HostError → View → View → Type 0
IsToldInPart w mode b items fault u v =
    HaltsRun w (opening mode b) (entries_on w mode b items) fault u v

-- these items are the first of those that are taken
abbrev pub IsFrontOf : TakenItems → List LifeEvent → Type 0
IsFrontOf taken items = (more : List LifeEvent) × (items_in taken ≡ items ++ more)

-- the host gave up somewhere in the items that are taken
abbrev pub HaltsIn : World → Mode → Book → TakenItems → HostError → View → View → Type 0
HaltsIn w mode b taken fault u v =
    (items : List LifeEvent) × IsFrontOf taken items × IsToldInPart w mode b items fault u v

-- By each answer: all items were taken through `end`, up to the line that is named, or up to the limit;
-- or the host gave up; or the spool that a life should begin on was found damaged. Where the host
-- tells, each queue file can be read.
abbrev pub RunEnds : World → Mode → Book → TakenItems → View → View → Result (Unit {0}) ReplayError → Type 0
RunEnds w mode b taken u v (Ok done) =
    (items : List LifeEvent) × (taken ≡ ended items) × IsTold w mode b items u v
RunEnds w mode b taken u v (Err (errors.BadEvent line)) =
    (items : List LifeEvent) × (taken ≡ faulty items line) × IsTold w mode b items u v
RunEnds w mode b taken u v (Err (errors.Limit bound)) =
    (items : List LifeEvent) × (taken ≡ limited items bound) × IsTold w mode b items u v
RunEnds w mode b taken u v (Err errors.Disk) = HaltsIn w mode b taken faults.Disk u v
RunEnds w mode b taken u v (Err errors.Tell) = HaltsIn w mode b taken faults.Tell u v
RunEnds w mode b taken u v (Err errors.NoMemory) = HaltsIn w mode b taken faults.NoMemory u v
RunEnds w mode b taken u v (Err errors.Source) = ⊥
RunEnds w mode b taken u v (Err (errors.Unreadable area name)) = ⊥
RunEnds w mode b taken u v (Err (errors.Damaged area name)) = (items : List LifeEvent)
    × IsFrontOf taken items × IsTold w mode b items u v × IsDamage v.files area name
