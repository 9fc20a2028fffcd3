use Rattle.std.proofs.Common.{◌≤◌, IsTrue, List, ℕ}
use Rattle.std.specs.BTreeMap.{get}
use Rattle.std.specs.Ordering.{nat_cmp}
use Rattle.q_host.specs.Calls.{Stays}
use Rattle.q_model.specs.Message.{Message}
use Rattle.q_pending.specs.Readings.{IsPendingAhead, IsReading, pending_left}
use Rattle.q_listing.proofs.GoneLaws.{IsGoneTo}
use Rattle.q_show.proofs.StateLaws.{AreWaiting}
use Rattle.q_show.proofs.states.waiting_of.Given as goal

abbrev pub invariant-loop-states : goal.invariant-loop-states
invariant-loop-states g l =
    let view = g.H.Host.view in
    let faults = g.H.Host.faults in
    record {
      reading : IsTrue g.H.Host.tells → IsReading (view l.host).files l.reader;
      waiting : IsTrue g.H.Host.tells → (m : Message) → (positions : List ℕ) → IsPendingAhead (view l.fn.host).files m l.fn.reader positions
          → IsGoneTo positions (IsPendingAhead (view l.fn.host).files m l.reader) (AreWaiting (get nat_cmp l.codes) l.states);
      stays : IsTrue g.H.Host.tells → Stays (view l.fn.host) (view l.host);
      disk_later : (faults l.fn.host).disk ≤ (faults l.host).disk;
      tell_later : (faults l.fn.host).tell ≤ (faults l.host).tell;
    }

-- each that is given leaves fewer
abbrev pub decreases-loop-states : goal.decreases-loop-states
decreases-loop-states g l = pending_left l.reader
