use Rattle.std.proofs.Common.{◌≡◌, ◌≤◌, IsTrue}
use Rattle.q_host.specs.Calls.{Stays}
use Rattle.q_host.specs.NamesLeft.{names_left}
use Rattle.q_model.specs.declared.spot.Area.TheVariants as areas
use Rattle.q_scan.specs.Walks.{IsUpToDate}
use Rattle.q_show.proofs.DueTimes.{IsStillToCome}
use Rattle.q_show.proofs.finding.due_time.Given as goal

-- the file wasn't among the names that came
abbrev pub invariant-loop-scan : goal.invariant-loop-scan
invariant-loop-scan g l =
    let view = g.H.Host.view in
    let faults = g.H.Host.faults in
    record {
      area : l.scan.area ≡ areas.Deferred;
      up_to_date : IsTrue g.H.Host.tells → IsUpToDate (view l.fn.host).files l.scan;
      to_come : IsTrue g.H.Host.tells → IsStillToCome (view l.fn.host).files l.id l.scan.place;
      stays : IsTrue g.H.Host.tells → Stays (view l.fn.host) (view l.host);
      disk_later : (faults l.fn.host).disk ≤ (faults l.host).disk;
      tell_later : (faults l.fn.host).tell ≤ (faults l.host).tell;
    }

-- each name leaves fewer
abbrev pub decreases-loop-scan : goal.decreases-loop-scan
decreases-loop-scan g l = names_left l.scan.place
