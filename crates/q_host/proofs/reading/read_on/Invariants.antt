use Rattle.std.proofs.Common.{◌≤◌, ◌-◌, length, IsTrue}
use Rattle.q_host.specs.Calls.{Stays}
use Rattle.q_host.proofs.ReadPieces.{IsFront}
use Rattle.q_host.proofs.reading.read_on.Given as goal

abbrev pub invariant-loop-area : goal.invariant-loop-area
invariant-loop-area g l =
    let view = g.H.Host.view in
    let faults = g.H.Host.faults in
    record {
      read : IsTrue g.H.Host.tells → IsFront ((view l.fn.host).files l.area l.name) l.bytes.items;
      stays : IsTrue g.H.Host.tells → Stays (view l.fn.host) (view l.host);
      disk_later : (faults l.fn.host).disk ≤ (faults l.host).disk;
      tell_later : (faults l.fn.host).tell ≤ (faults l.host).tell;
    }

abbrev pub decreases-loop-area : goal.decreases-loop-area
decreases-loop-area g l = l.size - length l.bytes.items
