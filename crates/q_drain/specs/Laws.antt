-- What turns and decisions do, over ledgers alone.
use Rattle.std.specs.Prelude.{◌+◌, ◌++◌, ◌≡◌, length, List, ℕ}
use Rattle.q_model.specs.declared.entry.Entry.{Entry}
use Rattle.q_model.specs.declared.event.Event.{Event}
use Rattle.q_model.specs.declared.event.LifeEvent.TheVariants.{Heard}
use Rattle.q_model.specs.Ledger.{Ledger}
use Rattle.q_model.specs.Past.{starts}
use Rattle.q_model.specs.Run.{decisions, turn}
use Rattle.q_model.specs.Settings.{World}
use Rattle.q_model.specs.Step.{after_all}
use Rattle.q_drain.specs.Drains.{IsOwnRun}
use Rattle.q_drain.specs.Flights.{AreNumbered, flights_begun}
use Rattle.q_drain.specs.Told.{begun_from}

-- so it is of each ledger
abbrev pub OfLedgers : (World → Ledger → Type 0) → Type 0
OfLedgers says = (w : World) → (l : Ledger) → says w l

-- the ledger behind the decisions
abbrev pub decided : World → Ledger → Ledger
decided w l = after_all w l (decisions w l)

-- told entries stay the run of their events, with the turn of one more
abbrev pub StaysOwnRun : World → Ledger → List Entry → Event → Type 0
StaysOwnRun w l told event = IsOwnRun w l told
    → IsOwnRun w l (told ++ turn w (after_all w l told) (Heard event))

-- decisions add to the deliveries in flight those that they begin, under the next numbers
pub record AddsFlights (w : World) (l : Ledger) (t : ℕ) : Type 0 where
  pub flights : (decided w l).flights ≡ l.flights ++ flights_begun t (decisions w l)
  pub numbers : AreNumbered (starts l) (begun_from t (decisions w l))
  pub starts_are : starts (decided w l) ≡ starts l + length (begun_from t (decisions w l))
