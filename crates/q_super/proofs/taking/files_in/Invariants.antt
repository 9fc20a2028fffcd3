use Rattle.std.proofs.Common.{◌≡◌, ◌≤◌, IsTrue}
use Rattle.std.specs.List.{AllByRecursion}
use Rattle.q_host.specs.Calls.{Stays}
use Rattle.q_host.specs.NamesLeft.{names_left}
use Rattle.q_scan.specs.Walks.{IsUpToDate}
use Rattle.q_super.specs.Names.{IsOfArea}
use Rattle.q_super.proofs.Names.{IsFront}
use Rattle.q_super.proofs.taking.files_in.Given as goal

-- all files up to a name were found
abbrev pub invariant-loop-found : goal.invariant-loop-found
invariant-loop-found g l =
    let view = g.H.Host.view in
    let faults = g.H.Host.faults in
    record {
      area : l.scan.area ≡ l.area;
      each : AllByRecursion (IsOfArea l.area) l.found.items;
      up_to_date : IsTrue g.H.Host.tells → IsUpToDate (view l.fn.host).files l.scan;
      front : IsTrue g.H.Host.tells → IsFront (view l.fn.host).files l.area l.scan.place l.found.items;
      stays : IsTrue g.H.Host.tells → Stays (view l.fn.host) (view l.host);
      disk_later : (faults l.fn.host).disk ≤ (faults l.host).disk;
      tell_later : (faults l.fn.host).tell ≤ (faults l.host).tell;
    }

-- each name leaves fewer
abbrev pub decreases-loop-found : goal.decreases-loop-found
decreases-loop-found g l = names_left l.scan.place
