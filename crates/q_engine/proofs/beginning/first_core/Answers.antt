use Rattle.std.proofs.Common.{subst, sym}
use Rattle.q_core.specs.Agrees.{AgreesIfOrderly, ForFirst}
use Rattle.q_core.specs.declared.state.Core.{Core}
use Rattle.q_engine.proofs.beginning.first_core.Goals as goal

pub returns-clause-orderly : goal.returns-clause-orderly
returns-clause-orderly c =
    subst (λ (k : Core). ForFirst c.args.params c.args.transports c.args.mode (λ w book l. AgreesIfOrderly w k book l)) (sym c.in_ok-made.ensures) c.in-Ok.ensures.orderly
