-- The records of links that were closed.
use Rattle.std.specs.Prelude.{◌-◌, [], map, List, unwrap_or}
use Rattle.q_link.specs.declared.closed_link.ClosedLink.{ClosedLink}
use Rattle.q_link.specs.Records.{Closed}
use Rattle.q_link.specs.Views.{Told}

-- what a link that doesn't tell would tell
abbrev pub untold : Told
untold = record { hop = []; received = []; sent = []; not_yets = 0; rests_before = 0 }

-- the record of a link that told this
abbrev pub record_with : Told → ClosedLink → Closed
record_with told c = record {
  hop = told.hop;
  received = told.received;
  sent = told.sent;
  ended = c.link.view.ended;
  faults = c.link.view.faults;
  not_yets = told.not_yets;
  rests = c.rests - told.rests_before;
  connects = c.connects;
}

-- the record of a link
abbrev pub record_of : ClosedLink → Closed
record_of c = record_with (unwrap_or c.link.view.told untold) c

abbrev pub records_of : List ClosedLink → List Closed
records_of links = map record_of links
