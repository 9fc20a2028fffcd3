use Rattle.q_candidates.specs.Candidates.{may_preempt}
use Rattle.q_candidates.proofs.SoFar.{IsSoFar, needs_left}
use Rattle.q_candidates.proofs.candidates.Candidates.best.Given as goal

abbrev pub decreases-loop-at : goal.decreases-loop-at
decreases-loop-at l = needs_left l.at

-- each candidate that may preempt doesn't go before the best so far, or its need is to come
abbrev pub invariant-loop-at : goal.invariant-loop-at
invariant-loop-at l = IsSoFar l.now (may_preempt l.sites.items l.transport l.most l.except) l.most l.self-inside.candidates.items l.best l.at
