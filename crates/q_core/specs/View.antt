-- The state that a contract sees, by the core's fields.
use Rattle.std.specs.Prelude.{[], get_or, option_to_list}
use Rattle.q_core.specs.Known.{known_records}
use Rattle.q_core.specs.ServedRows.{served_rows}
use Rattle.q_core.specs.State.{State}
use Rattle.q_core.specs.declared.state.Core.TheInside.{Inside}
use Rattle.q_held.specs.Held.{rows_of}
use Rattle.q_pool.specs.Kept.{heads}

abbrev pub state_of : Inside → State
state_of a = record {
  params = a.params;
  transports = a.transports;
  mode = a.mode;
  clock = record { seconds = a.clock.seconds };
  timed = a.timed;
  next_run = a.next_run;
  scan = a.scan;
  asked = a.asked;
  ignores = a.ignores;
  deferred_follows = a.deferred_follows;
  admitted = heads a.admitted.items;
  waiting = rows_of a.waiting.items;
  flights = a.flights.items;
  in_memory = a.in_memory;
  served = served_rows a.schedule.peers;
  unsettled = a.unsettled.items;
  lines = a.schedule.lines;
  sites = known_records a.sites.items;
  synced = option_to_list a.synced;
  starts = a.starts;
  active = a.active;
  incoming = a.incoming;
  deferred = a.deferred;
  question = a.question;
  named = a.named.items;
  skips = a.skips;
  skipped = get_or a.skipped.lists 0 [];
}
