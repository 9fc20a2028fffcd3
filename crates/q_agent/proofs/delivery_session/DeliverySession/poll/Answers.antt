use Rattle.std.proofs.Common.{subst, ℕ}
use Rattle.q_session.specs.declared.polled.Polled.{Polled}
use Rattle.q_agent.specs.Polling.{Concluded, PollsOnce}
use Rattle.q_agent.specs.Slots.{work_of}
use Rattle.q_agent.proofs.PollLaws.{report_by}
use Rattle.q_agent.proofs.delivery_session.DeliverySession.poll.Goals as goal

pub returns-clause-went : goal.returns-clause-went
returns-clause-went g c =
    let view = g.L.Link.view in
    let host = g.H.Host.view c.args.host.now in
    let before = g.N.Hops.view c.args.hops.now in
    let after = g.N.Hops.view c.conclude.new.hops in
    let w = work_of view c.args.self.now in
    let v = work_of view c.poll_session.new.self in
    let polls = subst (λ (p : Polled). PollsOnce g.H.Host.tells host c.args.now p w v) c.in-Over.is c.in_ok-site.ensures.polled in
    let done = subst (λ (n : ℕ). Concluded before after v n c.in_ok-outcomes.outcomes) c.poll_session.ensures.recipients c.in_ok-outcomes.ensures.ok in
    report_by g.H.Host.tells host c.args.now c.args.number c.args.self.now.recipients before after w v c.in-Over.site c.in_ok-outcomes.outcomes c.requires.sound polls done
