-- What the entries of a trace name: events, moments, and deliveries that begin and end.
use Rattle.std.specs.Prelude.{◌++◌, ◌∷◌, [], flat_map, List, map, ℕ}
use Rattle.q_model.specs.declared.entry.Entry.{Entry}
use Rattle.q_model.specs.declared.entry.Entry.TheVariants as entries
use Rattle.q_model.specs.declared.event.Event.{Event}
use Rattle.q_model.specs.declared.event.Event.TheVariants as events
use Rattle.q_model.specs.declared.event.LifeEvent.{LifeEvent}
use Rattle.q_model.specs.declared.event.LifeEvent.TheVariants.{Heard}
use Rattle.q_model.specs.declared.id.Id.{Id}
use Rattle.q_model.specs.declared.outcome.Outcome.{Outcome}
use Rattle.q_model.specs.declared.outcome.SiteState.{SiteState}
use Rattle.q_model.specs.Values.{Site}

-- an `at` line names a moment, and a `reply` line a reply
abbrev pub event_of : Entry → List Event
event_of (entries.At t) = events.At t ∷ []
event_of (entries.Reply number site outcomes) = events.Reply number site outcomes ∷ []
event_of _ = []

abbrev pub events_of : List Entry → List Event
events_of es = flat_map event_of es

-- these events, as what a life hears
abbrev pub heard_of : List Entry → List LifeEvent
heard_of es = map Heard (events_of es)

abbrev pub moment_of : Entry → List ℕ
moment_of (entries.At t) = t ∷ []
moment_of _ = []

-- the moments of the `at` lines
abbrev pub moments_of : List Entry → List ℕ
moments_of es = flat_map moment_of es

-- the moment behind an entry
abbrev pub moment_behind : ℕ → Entry → ℕ
moment_behind t (entries.At now) = now
moment_behind t _ = t

-- the moment behind all of them: that of the last `at` line
abbrev pub moment_after : ℕ → List Entry → ℕ
moment_after t [] = t
moment_after t (e ∷ es) = moment_after (moment_behind t e) es

-- a delivery, by its `start` line and the moment then
pub record Begun : Type 0 where
  pub number : ℕ
  pub id : Id
  pub site : Site
  pub positions : List ℕ
  pub moment : ℕ

abbrev pub begun_of : ℕ → Entry → List Begun
begun_of t (entries.Start number id site positions) =
    record { number = number; id = id; site = site; positions = positions; moment = t } ∷ []
begun_of t _ = []

-- the deliveries that begin, from a moment on
abbrev pub begun_from : ℕ → List Entry → List Begun
begun_from t [] = []
begun_from t (e ∷ es) = begun_of t e ++ begun_from (moment_behind t e) es

-- the deliveries that begin in a life
abbrev pub begun : List Entry → List Begun
begun es = begun_from 0 es

-- the end of a delivery, by its `reply` line
pub record Ended : Type 0 where
  pub number : ℕ
  pub site : SiteState
  pub outcomes : List Outcome

abbrev pub ended_of : Entry → List Ended
ended_of (entries.Reply number site outcomes) =
    record { number = number; site = site; outcomes = outcomes } ∷ []
ended_of _ = []

-- the ends of deliveries
abbrev pub ended : List Entry → List Ended
ended es = flat_map ended_of es
