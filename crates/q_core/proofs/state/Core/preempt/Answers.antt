use Rattle.std.proofs.Common.{subst}
use Rattle.q_core.specs.Sending.{IsPreempted}
use Rattle.q_model.specs.Step.{after}
use Rattle.q_core.proofs.PreemptLaws.{preempt_law}
use Rattle.q_core.proofs.state.Core.preempt.Goals as goal

pub returns-clause-exact : goal.returns-clause-exact
unfolding after
returns-clause-exact c = λ w l a rule.
    let moved = subst (λ n. IsPreempted c.args.self.now c.move_job.new.self c.args.child c.args.parent c.args.transport n c.job_left-left.result) c.from.ensures c.move_job.ensures in
    preempt_law a c.requires.seen c.args.child c.args.parent c.args.transport c.args.need c.job_left-left.result rule c.job_left-left.ensures.value c.job_left-left.ensures.few moved c.tidy.ensures
