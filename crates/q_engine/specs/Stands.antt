-- When an engine and its host stand for a ledger, and what is decided next.
use Rattle.std.specs.Prelude.{◌≡◌, ◌≤◌, ◌-◌, ◌^◌, Bool, count_by, false, min, None, Option, Some, true, ℕ}
use Rattle.q_model.specs.declared.entry.Entry.{Entry}
use Rattle.q_model.specs.declared.entry.Entry.TheVariants as entries
use Rattle.q_model.specs.declared.id.Id.{Id}
use Rattle.q_model.specs.Batches.{load_end}
use Rattle.q_model.specs.Book.{message_of}
use Rattle.q_model.specs.Ledger.{Ledger}
use Rattle.q_model.specs.Memory.{free}
use Rattle.q_model.specs.Message.{Message}
use Rattle.q_model.specs.Next.{next}
use Rattle.q_model.specs.Past.{arrivals}
use Rattle.q_model.specs.Settings.{World}
use Rattle.q_model.specs.Step.{after}
use Rattle.q_transport.specs.Routing.{table_of}
use Rattle.q_host.specs.View.{View}
use Rattle.q_books.specs.HostStands.{HostStands, OwnLogs}
use Rattle.q_core.specs.Agrees.{Agrees}
use Rattle.q_core.specs.Deciding.{is_answered, IsPlaced, IsStartOf, NotesSkip}
use Rattle.q_core.specs.Changes.{is_looked_at}
use Rattle.q_core.specs.Decisions.{IsOf}
use Rattle.q_core.specs.declared.decision.Decision.{Decision}
use Rattle.q_core.specs.declared.decision.Decision.TheVariants as decisions
use Rattle.q_core.specs.declared.state.Core.{Core}
use Rattle.q_engine.specs.KeptPlaces.{ArePlaced}
use Rattle.q_engine.specs.declared.engine.Engine.{Engine}

-- with another core
abbrev pub with_core : Core → Engine → Engine
with_core c e = record e { core = record e.core { value = c } }

-- a job goes before another
abbrev pub is_preempt : Entry → Bool
is_preempt (entries.Preempt child parent transport need) = true
is_preempt _ = false

-- how often one did in this life
abbrev pub preempts : Ledger → ℕ
preempts l = count_by is_preempt l.past

-- what the engine counts; the last stays at 2^64 - 1
pub record HasCounts (engine : Engine) (l : Ledger) : Type 0 where
  pub begun : 1 ≤ engine.generation
  pub generation : engine.generation ≡ l.book.generation
  pub arrivals : engine.arrivals ≡ arrivals l
  pub preempts : engine.preempts ≡ min (preempts l) (2 ^ 64 - 1)

-- The core agrees with the ledger, and the host stands for its book.
pub record EngineStands (w : World) (engine : Engine) (v : View) (l : Ledger) : Type 0 where
  pub table : w.table ≡ table_of engine.table
  pub core : Agrees w engine.core.value l
  pub counts : HasCounts engine l
  pub host : HostStands v l.book
  pub logs : OwnLogs v.files l.book
  pub places : ArePlaced engine.places l.book

-- The core has taken the next entry over, and the host still stands for the book before it.
pub record HasDecided (w : World) (l : Ledger) (d : Decision) (e : Entry) (engine : Engine) (v : View)
    : Type 0 where
  pub before : Core
  pub table : w.table ≡ table_of engine.table
  pub of : IsOf before d e
  pub following : next w l ≡ Some e
  pub was : Agrees w before l
  pub core : Agrees w engine.core.value (after w l e)
  pub placed : IsPlaced l (Some d)
  pub started : IsStartOf w l (Some d) engine.core.value
  pub skipped : NotesSkip before (Some d) engine.core.value
  pub counts : HasCounts engine l
  pub host : HostStands v l.book
  pub logs : OwnLogs v.files l.book
  pub places : ArePlaced engine.places l.book

-- The next entry is the load that the core asked for.
pub record HasAsked (w : World) (l : Ledger) (id : Id) (from max : ℕ) (engine : Engine) (v : View)
    : Type 0 where
  pub message : Message
  pub there : message_of l.book id ≡ Some message
  pub room : max ≡ free w l
  pub following : next w l ≡ Some (entries.Load id from (load_end message from max))
  pub stands : EngineStands w engine v l

-- the next entry is that of the decision, or there is none
abbrev pub IsNextEntry : World → Ledger → Option Decision → Engine → View → Type 0
IsNextEntry w l None engine v = (next w l ≡ None) × EngineStands w engine v l
IsNextEntry w l (Some (decisions.Read id from max)) engine v = HasAsked w l id from max engine v
IsNextEntry w l (Some d) engine v = (e : Entry) × HasDecided w l d e engine v

-- no look and no read waits for its answer, and no scan for its next name
pub record IsReady (engine : Engine) : Type 0 where
  pub answered : is_answered engine.core.value.question ≡ true
  pub looked : is_looked_at engine.core.value ≡ true
