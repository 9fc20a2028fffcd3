use Rattle.std.proofs.Common.{◌≤◌, IsTrue, List, ℕ}
use Rattle.q_host.specs.Calls.{Stays}
use Rattle.q_model.specs.Message.{Message}
use Rattle.q_pending.specs.Readings.{IsPendingAhead, IsReading, pending_left}
use Rattle.q_super.proofs.Readers.{HasLeft}
use Rattle.q_super.proofs.expiring.positions_of.Given as goal

abbrev pub invariant-loop-positions : goal.invariant-loop-positions
invariant-loop-positions g l =
    let view = g.H.Host.view in
    let faults = g.H.Host.faults in
    record {
      reading : IsTrue g.H.Host.tells → IsReading (view l.fn.host).files l.reader;
      left : IsTrue g.H.Host.tells → (m : Message) (positions : List ℕ) → IsPendingAhead (view l.fn.host).files m l.fn.reader positions → HasLeft (view l.fn.host).files m l.positions l.reader positions;
      stays : IsTrue g.H.Host.tells → Stays (view l.fn.host) (view l.host);
      disk_later : (faults l.fn.host).disk ≤ (faults l.host).disk;
      tell_later : (faults l.fn.host).tell ≤ (faults l.host).tell;
    }

-- each that is given leaves fewer
abbrev pub decreases-loop-positions : goal.decreases-loop-positions
decreases-loop-positions g l = pending_left l.reader
