use Rattle.std.proofs.Common.{◌≤◌, IsTrue}
use Rattle.q_host.specs.Calls.{Stays}
use Rattle.q_host.specs.NamesLeft.{names_left}
use Rattle.q_restart.proofs.NameLists.{IsFront}
use Rattle.q_check.proofs.names.all_names.Given as goal

-- all names up to one were found
abbrev pub invariant-loop-all : goal.invariant-loop-all
invariant-loop-all g l =
    let view = g.H.Host.view in
    let faults = g.H.Host.faults in
    record {
      found : IsTrue g.H.Host.tells → IsFront ((view l.fn.host).files l.area) l.after l.all.items;
      stays : IsTrue g.H.Host.tells → Stays (view l.fn.host) (view l.host);
      disk_later : (faults l.fn.host).disk ≤ (faults l.host).disk;
      tell_later : (faults l.fn.host).tell ≤ (faults l.host).tell;
    }

-- each listing leaves fewer names
abbrev pub decreases-loop-all : goal.decreases-loop-all
decreases-loop-all g l = names_left l.after
