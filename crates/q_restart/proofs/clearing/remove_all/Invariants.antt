use Rattle.std.proofs.Common.{◌≤◌, drop, IsTrue}
use Rattle.q_model.specs.declared.spot.Area.TheVariants as areas
use Rattle.q_restart.specs.Clearings.{ChangesTmp, GoesBy}
use Rattle.q_restart.specs.Walks.{AreAllNames}
use Rattle.q_restart.proofs.clearing.remove_all.Given as goal

abbrev pub invariant-loop-name : goal.invariant-loop-name
invariant-loop-name g l =
    let view = g.H.Host.view in
    let faults = g.H.Host.faults in
    record {
      listed : IsTrue g.H.Host.tells → AreAllNames ((view l.host).files areas.Tmp) (drop l.name-index l.names);
      goes : IsTrue g.H.Host.tells → GoesBy ChangesTmp (view l.fn.host) (view l.host);
      disk_later : (faults l.fn.host).disk ≤ (faults l.host).disk;
      tell_later : (faults l.fn.host).tell ≤ (faults l.host).tell;
    }
