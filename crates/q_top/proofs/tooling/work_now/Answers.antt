use Rattle.q_top.proofs.tooling.work_now.Goals as goal

pub returns-clause-works : goal.returns-clause-works
returns-clause-works g c t = record { moment = c.now-moment.result; given = c.now-moment.ensures.given; works = c.work_at.ensures.works t }

pub returns-clause-named : goal.returns-clause-named
returns-clause-named g c tool text lacks = c.work_at.ensures.named tool text lacks
