use Rattle.std.proofs.Common.{◌≡◌, map, take}
use Rattle.q_model.specs.declared.outcome.Failure.{Failure}
use Rattle.q_engine.proofs.failures.positions_of.Given as goal

abbrev pub invariant-loop-failure : goal.invariant-loop-failure
invariant-loop-failure l = l.positions ≡ map (λ (f : Failure). f.position) (take l.failure-index l.failures)
