-- How a replay ends, by the text of its source.
use Rattle.std.specs.Prelude.{◌≡◌, ◌⊎◌, ◌+◌, ◌++◌, [], Err, length, List, Option, Result, Some, true, ℕ}
use Rattle.q_books.specs.HostStands.{HostStands}
use Rattle.q_engine.specs.Beginnings.{InWorlds}
use Rattle.q_lines.specs.TextLines.{TextLine, is_in_line, lines_from}
use Rattle.q_events.specs.declared.list_item.ListItem.TheVariants.{Restart}
use Rattle.q_host.specs.View.{View}
use Rattle.q_model.specs.Book.{Book}
use Rattle.q_model.specs.Ledger.{opening}
use Rattle.q_model.specs.Orderly.{is_orderly}
use Rattle.q_model.specs.Settings.{Settings, World}
use Rattle.q_model.specs.declared.event.LifeEvent.{LifeEvent}
use Rattle.q_model.specs.declared.event.Mode.TheVariants.{Deliver}
use Rattle.q_model.specs.declared.spot.Area.{Area}
use Rattle.q_replay.specs.Listings.{gives, lines_of, listing}
use Rattle.q_replay.specs.Reading.{faulty, read_items, read_text}
use Rattle.q_replay.specs.RunEnds.{IsTold, RunEnds}
use Rattle.q_replay.specs.declared.error.ReplayError.{ReplayError}
use Rattle.q_replay.specs.declared.error.ReplayError.TheVariants as errors
use Rattle.q_restart.specs.Damages.{IsDamage}
use Rattle.q_transport.specs.Contents.{Contents}

-- These items stand in the lines that were taken whole, to which only the line behind them is
-- lacking; of that a part was taken, and the source has the rest.
pub record IsCutOff (w : World) (b : Book) (bytes : List ℕ) (left : Option (List ℕ)) (items : List LifeEvent)
    : Type 0 where
  pub lines : List TextLine
  pub limit : ℕ
  pub part : List ℕ
  pub rest : List ℕ
  pub all : lines_of bytes ≡ lines ++ lines_from limit (part ++ rest)
  pub open_line : is_in_line part ≡ true
  pub there : left ≡ Some rest
  pub lacks : read_items w (opening Deliver b) (gives Restart 0 (listing [] 1 lines))
      ≡ faulty items (length lines + 1)

-- Where the source failed, the items of the lines that were taken whole were taken. All other answers
-- go by which items of the text are taken.
abbrev pub ReplayEnds : World → Book → List ℕ → Option (List ℕ) → View → View
    → Result (Unit {0}) ReplayError → Type 0
ReplayEnds w b bytes left u v (Err errors.Source) =
    (items : List LifeEvent) × IsCutOff w b bytes left items × IsTold w Deliver b items u v
ReplayEnds w b bytes left u v result = RunEnds w Deliver b (read_text w b bytes) u v result

-- the host stands for an orderly book
abbrev pub StandsOrderly : View → Type 0
StandsOrderly v = (b : Book) × HostStands v b × (is_orderly b ≡ true)

-- the files show a damage that keeps the spool from being opened
abbrev pub ShowsDamage : View → Type 0
ShowsDamage v = (area : Area) × (name : List ℕ) × IsDamage v.files area name

-- a spool that a life can be begun on, or that is refused
abbrev pub IsFitSpool : View → Type 0
IsFitSpool v = StandsOrderly v ⊎ ShowsDamage v

-- of each orderly book for which the host stood, in the world of these settings and this table
abbrev pub ForOrderly : Settings → Contents → View → (World → Book → Type 0) → Type 0
ForOrderly params table v says = (b : Book) → HostStands v b → is_orderly b ≡ true
    → InWorlds params table (λ w. says w b)
