use Rattle.std.proofs.Common.{◌≡◌, ◌≤◌, IsTrue, true}
use Rattle.q_core.specs.Deciding.{is_answered}
use Rattle.q_model.specs.Ledger.{Ledger}
use Rattle.q_model.specs.Settings.{World}
use Rattle.q_engine.specs.Stands.{EngineStands}
use Rattle.q_engine.proofs.DecisionLoops.{Went}
use Rattle.q_engine.proofs.engine.Engine.decisions.Given as goal

abbrev pub invariant-loop : goal.invariant-loop
invariant-loop g l =
    let view = g.H.Host.view in
    let faults = g.H.Host.faults in
    record {
      answered : is_answered l.self.core.value.question ≡ true;
      timed : l.self.core.value.timed ≡ true;
      went : IsTrue g.H.Host.tells → (w : World) (k : Ledger) → EngineStands w l.fn.self (view l.fn.host) k → Went w k l.counter l.self (view l.fn.host) (view l.host);
      disk_later : (faults l.fn.host).disk ≤ (faults l.host).disk;
      tell_later : (faults l.fn.host).tell ≤ (faults l.host).tell;
    }
