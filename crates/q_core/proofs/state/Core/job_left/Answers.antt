use Rattle.q_core.proofs.state.Core.job_left.Goals as goal

pub waiting_for-requires : goal.waiting_for-requires
waiting_for-requires c = c.self.invariant.3.counts
