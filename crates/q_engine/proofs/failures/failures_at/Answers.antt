use Rattle.std.proofs.Common.{◌<◌, List, subst, sym}
use Rattle.std.specs.Prelude.{All}
use Rattle.q_model.specs.declared.outcome.Failure.{Failure}
use Rattle.q_engine.proofs.FailureFlags.{failures_within}
use Rattle.q_engine.proofs.failures.failures_at.Goals as goal

pub returns-clause-within : goal.returns-clause-within
returns-clause-within g c = subst (λ (fs : List Failure). All (λ (f : Failure). f.position < c.args.recipients) fs) (sym c.in_ok-failures_by.ensures.failures) (failures_within c.args.recipients c.as_slice.result.now)
