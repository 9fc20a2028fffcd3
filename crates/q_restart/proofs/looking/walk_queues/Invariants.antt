use Rattle.std.proofs.Common.{◌+◌, ◌≤◌, IsTrue}
use Rattle.q_host.specs.Calls.{Stays}
use Rattle.q_restart.specs.Walks.{ArePlaces}
use Rattle.q_restart.proofs.Standings.{IsWalkTo}
use Rattle.q_restart.proofs.looking.walk_queues.Given as goal

abbrev pub invariant-loop-area : goal.invariant-loop-area
invariant-loop-area g l =
    let view = g.H.Host.view in
    let faults = g.H.Host.faults in
    record {
      places : ArePlaces l.walk.items;
      walk : IsTrue g.H.Host.tells → IsWalkTo (view l.fn.host).files (3 + l.area-index) l.walk.items;
      stays : IsTrue g.H.Host.tells → Stays (view l.fn.host) (view l.host);
      disk_later : (faults l.fn.host).disk ≤ (faults l.host).disk;
      tell_later : (faults l.fn.host).tell ≤ (faults l.host).tell;
    }
