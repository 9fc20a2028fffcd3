use Rattle.std.proofs.Common.{◌+◌, ◌≡◌, ◌≤◌, IsTrue, length, List, ℕ}
use Rattle.q_host.specs.Calls.{Stays}
use Rattle.q_model.specs.Message.{Message}
use Rattle.q_pending.specs.Readings.{IsPendingAhead, IsReading, pending_left}
use Rattle.q_listing.proofs.GoneLaws.{IsGoneTo}
use Rattle.q_views.proofs.counting.count_each.Given as goal

abbrev pub invariant-loop-count : goal.invariant-loop-count
invariant-loop-count g l =
    let view = g.H.Host.view in
    let faults = g.H.Host.faults in
    record {
      few : l.count + pending_left l.reader ≤ pending_left l.fn.reader;
      reading : IsTrue g.H.Host.tells → IsReading (view l.host).files l.reader;
      counted : IsTrue g.H.Host.tells → (m : Message) → (positions : List ℕ) → IsPendingAhead (view l.fn.host).files m l.fn.reader positions
          → IsGoneTo positions (IsPendingAhead (view l.fn.host).files m l.reader) (λ done. l.count ≡ length done);
      stays : IsTrue g.H.Host.tells → Stays (view l.fn.host) (view l.host);
      disk_later : (faults l.fn.host).disk ≤ (faults l.host).disk;
      tell_later : (faults l.fn.host).tell ≤ (faults l.host).tell;
    }

-- each that is counted leaves fewer
abbrev pub decreases-loop-count : goal.decreases-loop-count
decreases-loop-count g l = pending_left l.reader
