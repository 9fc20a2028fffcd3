use Rattle.q_engine.specs.Stands.{IsReady}
use Rattle.q_engine_cases.proofs.drive.turns.Given as goal

abbrev pub invariant-loop : goal.invariant-loop
invariant-loop l = IsReady l.engine
