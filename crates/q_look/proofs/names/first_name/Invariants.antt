use Rattle.std.proofs.Common.{◌≤◌, IsTrue}
use Rattle.q_host.specs.Calls.{Stays}
use Rattle.q_host.specs.NamesLeft.{names_left}
use Rattle.q_look.proofs.Listings.{HasPassed}
use Rattle.q_look.proofs.names.first_name.Given as goal

-- no name that is looked for stands before the names that are still to come
abbrev pub invariant-walk : goal.invariant-walk
invariant-walk g l =
    let view = g.H.Host.view in
    let faults = g.H.Host.faults in
    record {
      passed : IsTrue g.H.Host.tells → HasPassed (g.W.Wanted.names l.wanted) ((view l.fn.host).files l.area) l.fn.after l.behind;
      stays : IsTrue g.H.Host.tells → Stays (view l.fn.host) (view l.host);
      disk_later : (faults l.fn.host).disk ≤ (faults l.host).disk;
      tell_later : (faults l.fn.host).tell ≤ (faults l.host).tell;
    }

-- each listing leaves fewer names
abbrev pub decreases-walk : goal.decreases-walk
decreases-walk g l = names_left l.behind
