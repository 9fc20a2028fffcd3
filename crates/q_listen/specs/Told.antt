-- What the entries of a trace name: moments, and messages that arrived.
use Rattle.std.specs.Prelude.{◌∷◌, ◌≡◌, [], flat_map, List, map}
use Rattle.q_model.specs.declared.entry.Entry.{Entry}
use Rattle.q_model.specs.declared.entry.Entry.TheVariants as entries
use Rattle.q_model.specs.declared.event.Event.{Event}
use Rattle.q_model.specs.declared.event.Event.TheVariants as events
use Rattle.q_model.specs.declared.event.LifeEvent.{LifeEvent}
use Rattle.q_model.specs.declared.event.LifeEvent.TheVariants.{Heard}
use Rattle.q_model.specs.Ledger.{Ledger}
use Rattle.q_model.specs.Run.{run}
use Rattle.q_model.specs.Settings.{World}
use Rattle.q_replay.specs.Deliveries.{life_of}
use Rattle.q_smtpd.specs.Places.{Mail}

-- an `at` line names a moment, and an `arrive` line with its content a message
abbrev pub event_of : Entry → List Event
event_of (entries.At t) = events.At t ∷ []
event_of (entries.Arrive id sender to content) = events.Mail sender to content ∷ []
event_of _ = []

abbrev pub events_of : List Entry → List Event
events_of es = flat_map event_of es

-- the items that a trace names
abbrev pub life_told : List Entry → List LifeEvent
life_told es = life_of (events_of es)

-- they are the run of the events that they name
abbrev pub IsOwnRun : World → Ledger → List Entry → Type 0
IsOwnRun w l told = told ≡ run w l (map Heard (events_of told))

abbrev pub mail_of : Entry → List Mail
mail_of (entries.Arrive id sender to content) = record { sender = sender; to = to; content = content } ∷ []
mail_of _ = []

-- the messages that arrived, in order
abbrev pub mails_told : List Entry → List Mail
mails_told es = flat_map mail_of es
