use Rattle.std.proofs.Common.{◌≡◌}
use Rattle.q_engine.specs.Stands.{EngineStands, IsReady}
use Rattle.q_load.specs.Loads.{load_world}
use Rattle.q_load.proofs.Bounds.{left_of}
use Rattle.q_load.proofs.Hearing.{IsHearing, IsUnderWay}
use Rattle.q_mem_host.specs.Left.{view_of}
use Rattle.q_model.specs.Ledger.{Ledger}
use Rattle.q_load.proofs.loading.hear_all.Given as goal

abbrev pub invariant-loop-engine : goal.invariant-loop-engine
invariant-loop-engine l = record {
  ready : IsReady l.engine;
  mails : l.generator.mails ≡ l.mails;
  way : IsUnderWay l.mails l.generator l.engine (view_of l.host);
  went : (k : Ledger) → EngineStands load_world l.fn.engine (view_of l.fn.host) k → IsHearing l.mails k l.generator l.engine (view_of l.host);
}

-- each that is heard leaves fewer
abbrev pub decreases-loop-engine : goal.decreases-loop-engine
decreases-loop-engine l = left_of l.mails l.generator.replies l.generator.came l.generator.rounds
