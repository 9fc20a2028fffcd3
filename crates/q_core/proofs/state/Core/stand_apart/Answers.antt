use Rattle.std.proofs.Common.{subst}
use Rattle.q_core.specs.Choosing.{jobs_at}
use Rattle.q_core.specs.State.{State}
use Rattle.q_jobs.specs.Jobs.{AreOfOthers}
use Rattle.q_turns.proofs.WithLine.{apart_at}
use Rattle.q_core.proofs.state.Core.stand_apart.Goals as goal

pub returns : goal.returns
returns c = subst (λ (s : State). AreOfOthers (jobs_at s c.args.transport)) c.self.view_is (apart_at c.args.transport c.self.inside.schedule.lines c.stand_apart.ensures.lines)
