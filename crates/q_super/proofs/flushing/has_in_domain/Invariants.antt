use Rattle.std.proofs.Common.{◌≤◌, IsTrue, List, ℕ}
use Rattle.q_host.specs.Calls.{Stays}
use Rattle.q_model.specs.Message.{Message}
use Rattle.q_pending.specs.Readings.{IsPendingAhead, IsReading, pending_left}
use Rattle.q_super.proofs.Readers.{LooksOn}
use Rattle.q_super.proofs.flushing.has_in_domain.Given as goal

abbrev pub invariant-loop-taken : goal.invariant-loop-taken
invariant-loop-taken g l =
    let view = g.H.Host.view in
    let faults = g.H.Host.faults in
    record {
      reading : IsTrue g.H.Host.tells → IsReading (view l.fn.host).files l.reader;
      left : IsTrue g.H.Host.tells → (m : Message) (positions : List ℕ) → IsPendingAhead (view l.fn.host).files m l.fn.reader positions → LooksOn (view l.fn.host).files m l.domain l.reader positions;
      stays : IsTrue g.H.Host.tells → Stays (view l.fn.host) (view l.host);
      disk_later : (faults l.fn.host).disk ≤ (faults l.host).disk;
      tell_later : (faults l.fn.host).tell ≤ (faults l.host).tell;
    }

-- each that is given leaves fewer
abbrev pub decreases-loop-taken : goal.decreases-loop-taken
decreases-loop-taken g l = pending_left l.reader
