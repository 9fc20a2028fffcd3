use Rattle.std.proofs.Common.{◌≤◌, IsTrue, take}
use Rattle.q_host.specs.Calls.{Stays}
use Rattle.q_check.specs.Copies.{CopiesNames}
use Rattle.q_check.proofs.copies.copy_areas.Given as goal

abbrev pub invariant-loop-area : goal.invariant-loop-area
invariant-loop-area g l =
    let view = g.H.Host.view in
    let faults = g.H.Host.faults in
    record {
      copied : IsTrue g.H.Host.tells → IsTrue g.M.Host.tells → CopiesNames (take l.area-index l.these) (view l.fn.host).files (g.M.Host.view l.copy).files;
      stays : IsTrue g.H.Host.tells → Stays (view l.fn.host) (view l.host);
      disk_later : (faults l.fn.host).disk ≤ (faults l.host).disk;
      tell_later : (faults l.fn.host).tell ≤ (faults l.host).tell;
    }
