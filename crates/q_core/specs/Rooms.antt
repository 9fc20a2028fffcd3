-- The room that is made at the beginning suffices.
use Rattle.std.specs.List.{AllByRecursion, list_all}
use Rattle.std.specs.Prelude.{◌≡◌, ◌<◌, ◌≤◌, ◌+◌, ◌*◌, Bool, count_by, length, max, true, Vec, vec_capacity, ℕ}
use Rattle.std.specs.declared.alloc.Global.{Global}
use Rattle.q_core.specs.Facts.{IsSeenDated}
use Rattle.q_core.specs.Starting.{flights_at}
use Rattle.q_core.specs.declared.state.Core.{Core}
use Rattle.q_core.specs.declared.state.Question.{Question}
use Rattle.q_core.specs.declared.state.Question.TheVariants.{Active, Deferred, Incoming, Nothing, Recipients}
use Rattle.q_core.specs.declared.state.Seen.{Seen}
use Rattle.q_flights.specs.Flying.{Flying, is_at}
use Rattle.q_model.specs.FailureLog.{is_log_code}
use Rattle.q_model.specs.declared.rows.Need.{Need}
use Rattle.q_model.specs.declared.rows.Need.TheVariants as needs
use Rattle.q_model.specs.declared.rows.Unsettled.{Unsettled}
use Rattle.q_model.specs.Settings.{Settings}
use Rattle.q_model.specs.Values.{Site}
use Rattle.q_positions.specs.Lists.{Lists}
use Rattle.q_queue.specs.Queued.{Queued}

-- the transport is one of the core's, and has a process left
abbrev pub HasProcess : Core → ℕ → Type 0
HasProcess c transport = (transport < c.transports)
    × (flights_at c transport < c.params.process_limit)

-- how many deliveries can be in flight: as many as there are processes of all transports
abbrev pub most_flights : Settings → ℕ → ℕ
most_flights p transports = max 1 (transports * p.process_limit)

-- how many sites can be known: those that rows wait for, those that deliveries are under way to, and
-- the dead ones that are remembered
abbrev pub most_sites : Settings → ℕ → ℕ
most_sites p transports = 2 * p.recipient_limit + most_flights p transports

-- deliveries are at transports that there are, no more at each than it has processes, and as many
-- as all of these have room
pub record AreWithinProcesses (p : Settings) (transports : ℕ) (fs : Flying) : Type 0 where
  pub known : AllByRecursion (λ f. f.row.site.transport < transports) fs.items
  pub within : (t : ℕ) → count_by (is_at t) fs.items ≤ p.process_limit
  pub room : fs.room ≡ most_flights p transports

-- a read asks for no more recipients than may be in memory
abbrev pub AsksWithin : Settings → Question → Type 0
AsksWithin p Nothing = Unit {0}
AsksWithin p Active = Unit {0}
AsksWithin p Incoming = Unit {0}
AsksWithin p Deferred = Unit {0}
AsksWithin p (Recipients id from max) = max ≤ p.recipient_limit

-- a failure that is to be logged has a code that a log can hold
abbrev pub can_be_logged : Need → Bool
can_be_logged (needs.Log why code) = is_log_code code
can_be_logged needs.Mark = true

abbrev pub is_loggable : Unsettled → Bool
is_loggable u = can_be_logged u.need

-- Deliveries have room, the sites of as many recipients as a read may ask for, and the outcomes of as
-- many as may be in memory. Logs can hold the codes of these, and a name can tell the due moment that
-- a look at deferred has shown.
pub record AreWithinBounds (p : Settings) (transports : ℕ) (flights : Flying) (question : Question)
    (named : Vec Site Global) (unsettled : Queued Unsettled) (deferred : Seen) : Type 0 where
  pub deliveries : AreWithinProcesses p transports flights
  pub asked : AsksWithin p question
  pub names : p.recipient_limit ≤ vec_capacity named
  pub named_few : length named.items ≤ p.recipient_limit
  pub outcomes : unsettled.room ≡ p.recipient_limit
  pub codes : list_all is_loggable unsettled.items ≡ true
  pub dated : IsSeenDated deferred

-- as many rows and peers have room as recipients may be in memory, as many sites as can be known, and
-- in each line a job of each message that may be in memory
pub record HasRoomForLoads (p : Settings) (transports row_room site_room peer_room line_room : ℕ)
    : Type 0 where
  pub rows : row_room ≡ p.recipient_limit
  pub sites : site_room ≡ most_sites p transports
  pub peers : peer_room ≡ p.recipient_limit
  pub jobs : line_room ≡ p.active_limit

-- rows that wait and deliveries have room for as many positions as a delivery may have, and so has the
-- one row that was put off last; rows of a load have room, and a place for the site of each
pub record HasRoomForPositions (p : Settings) (waiting_most flight_most : ℕ) (kept : Lists)
    (row_room row_most place_room : ℕ) : Type 0 where
  pub waiting : waiting_most ≡ p.entry_limit
  pub flights : flight_most ≡ p.entry_limit
  pub last : length kept.lists ≡ 1
  pub last_most : kept.most ≡ p.entry_limit
  pub rows : row_room ≡ p.recipient_limit
  pub positions : row_most ≡ p.entry_limit
  pub places : place_room ≡ p.recipient_limit
