-- A core in which nothing happened yet.
use Rattle.std.specs.Prelude.{◌≡◌, ◌≤◌, [], ◌∷◌, false, None, replicate, Vec, vec_capacity, ℕ}
use Rattle.std.specs.declared.alloc.Global.{Global}
use Rattle.q_core.specs.Rooms.{most_sites}
use Rattle.q_core.specs.State.{State}
use Rattle.q_core.specs.declared.state.Question.TheVariants.{Nothing}
use Rattle.q_core.specs.declared.state.Seen.TheVariants.{Unknown}
use Rattle.q_dest.specs.Dests.{Dests}
use Rattle.q_flights.specs.Flying.{Flying}
use Rattle.q_held.specs.Held.{Held}
use Rattle.q_model.specs.declared.event.Mode.{Mode}
use Rattle.q_model.specs.declared.rows.Unsettled.{Unsettled}
use Rattle.q_model.specs.Settings.{Settings}
use Rattle.q_model.specs.Values.{Site}
use Rattle.q_open_rows.specs.Opened.{Opened}
use Rattle.q_pool.specs.Pooled.{Pooled}
use Rattle.q_positions.specs.Lists.{Lists}
use Rattle.q_positions.specs.Rows.{Rows}
use Rattle.q_queue.specs.Queued.{Queued}
use Rattle.q_schedule.specs.Schedule.{Scheduling}

-- nothing is in the registers, and they have the room that the settings say
pub record AreNew (p : Settings) (transports : ℕ) (made : Dests × Pooled × Scheduling) : Type 0 where
  pub sites : made.0.items ≡ []
  pub admitted : made.1 ≡ record
      { items = []; room = p.active_limit; sync_limit = p.mark_sync_limit; minimum = p.recipient_minimum }
  pub lines : made.2.lines ≡ replicate transports []
  pub peers : made.2.peers ≡ []
  pub suspended : made.2.suspended ≡ []
  pub messages : made.2.messages ≡ []
  pub message_room : made.2.message_room ≡ p.active_limit
  pub site_room : made.0.room ≡ most_sites p transports
  pub peer_room : made.2.room ≡ p.recipient_limit
  pub line_room : made.2.line_room ≡ p.active_limit

-- nothing waits, nothing is in flight, no outcome is to be settled and no row was put off, with the
-- room that the settings say and for so many deliveries
pub record AreEmpty (p : Settings) (deliveries : ℕ)
    (made : Held × Flying × Queued Unsettled × Lists) : Type 0 where
  pub waiting : made.0 ≡ record { items = []; room = p.recipient_limit; most = p.entry_limit }
  pub flights : made.1 ≡ record { items = []; room = deliveries; most = p.entry_limit }
  pub unsettled : made.2 ≡ record { items = []; room = p.recipient_limit }
  pub skipped : made.3 ≡ record { lists = [] ∷ []; most = p.entry_limit }

-- nothing was read, with the room that the settings say
pub record AreUnread (p : Settings) (made : Rows × Opened × Vec Site Global) : Type 0 where
  pub rows : made.0 ≡ record { rows = []; room = p.recipient_limit; most = p.entry_limit }
  pub places : made.1.room ≡ p.recipient_limit
  pub named : made.2.items ≡ []
  pub name_room : p.recipient_limit ≤ vec_capacity made.2

-- what the core holds then
abbrev pub first_state : Settings → ℕ → Mode → State
first_state p transports mode = record {
  params = p;
  transports = transports;
  mode = mode;
  clock = record { seconds = 0 };
  timed = false;
  next_run = 0;
  scan = None;
  asked = None;
  ignores = false;
  deferred_follows = false;
  admitted = [];
  waiting = [];
  flights = [];
  in_memory = 0;
  served = [];
  unsettled = [];
  lines = replicate transports [];
  sites = [];
  synced = [];
  starts = 0;
  active = Unknown;
  incoming = Unknown;
  deferred = Unknown;
  question = Nothing;
  named = [];
  skips = 0;
  skipped = [];
}
