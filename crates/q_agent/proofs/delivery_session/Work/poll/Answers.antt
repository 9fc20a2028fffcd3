use Rattle.q_agent.proofs.PollLaws.{polls_work}
use Rattle.q_agent.specs.Slots.{shown_work}
use Rattle.q_agent.proofs.delivery_session.Work.poll.Goals as goal

pub returns-clause-polled : goal.returns-clause-polled
returns-clause-polled g c =
    let e = c.poll.ensures in
    polls_work g.H.Host.tells (g.H.Host.view c.args.host.now) c.args.now (shown_work g.L.Link.view c.args.self.now) (record { session = c.poll.new.self; link = g.L.Link.view c.poll.new.link }) c.poll.result
    (record { late = e.late; in_time = e.in_time; keeps = e.keeps; counts = e.counts; codes = e.codes; passes = e.passes; faults = e.faults; spares = e.spares; serves = e.serves; awaits = e.awaits; over = e.over })
