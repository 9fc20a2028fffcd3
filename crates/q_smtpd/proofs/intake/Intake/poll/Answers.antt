use Rattle.std.proofs.Common.{◌+◌, ◌<◌, IfOk, subst, sym}
use Rattle.q_smtpd.proofs.Pacing.{poll_paces}
use Rattle.q_smtpd.specs.Sessions.{Serves}
use Rattle.q_smtpd.specs.declared.session.Session.{Session}
use Rattle.q_smtpd.proofs.intake.Intake.poll.Goals as goal

pub returns-clause-paced : goal.returns-clause-paced
returns-clause-paced g c = λ serves.
    let u = g.L.Link.view c.args.link.now in
    poll_paces c.args.now c.self.inside.session c.poll.new.self u (g.L.Link.view c.poll.new.link) c.poll.result
    c.poll.ensures.late c.poll.ensures.serves c.poll.ensures.err (subst (λ (s : Session). Serves s u) (sym c.self.view_is) serves)

pub returns-clause-serves : goal.returns-clause-serves
returns-clause-serves g c =
    let u = g.L.Link.view c.args.link.now in
    let v = g.L.Link.view c.poll.new.link in
    subst (λ (s : Session). c.args.now < s.heard + 300 → IfOk c.poll.result (λ served. Serves s u → Serves c.poll.new.self v)) c.self.view_is c.poll.ensures.serves
