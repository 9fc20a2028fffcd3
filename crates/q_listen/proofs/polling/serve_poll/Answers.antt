use Rattle.std.proofs.Common.{◌≡◌, ap, subst, ◌∙◌}
use Rattle.q_listen.proofs.Counting.{mail_counted_at}
use Rattle.q_listen.proofs.Going.{mail_goes, mail_refused, memory_to, over_to, working_to}
use Rattle.q_listen.proofs.Polls.{timely}
use Rattle.q_smtpd.specs.Places.{Mail}
use Rattle.q_smtpd.specs.Polls.{Brings, Completes, ComesTo, is_message, is_over, mails_in}
use Rattle.q_smtpd.specs.Uses.{SparesServed}
use Rattle.q_smtpd.specs.declared.served.Served.{Served}
use Rattle.q_smtpd.specs.declared.served.Served.TheVariants.{Message}
use Rattle.q_smtpd.specs.declared.session.Session.{Session}
use Rattle.q_listen.proofs.polling.serve_poll.Goals as goal

pub returns-in-Ok-Working-clause-serves : goal.returns-in-Ok-Working-clause-serves
returns-in-Ok-Working-clause-serves g c t o clock k goes =
    let link = g.L.Link.view in
    let door = g.D.Door.view in
    let i : Session = c.args.intake.now in
    let e = c.in-Ok-Working.ensures in
    let served : Served = c.in-Ok-Working.field-0 in
    let now = c.now-now.result in
    let early = timely i.heard now served (ap (λ (v : Served). is_over v) c.in-Ok-Working.field-0-is) e.late in
    working_to g.H.Host.view o clock (door c.args.door.now) (door c.rest_once.new.door) (g.H.Host.view c.args.host.now) k (link c.args.link.now) (link c.poll.new.link) i c.poll.new.self c.args.life now c.now-now.ensures.ledger
    (link c.rest_once.new.link) served c.args.rests c.rest_once.result c.in-Ok-Working.field-0-is (e.serves early) e.brings e.heard c.rest_once.ensures goes

pub returns-in-Ok-clause-serves : goal.returns-in-Ok-clause-serves
returns-in-Ok-clause-serves g c t o clock k goes =
    let link = g.L.Link.view in
    let i : Session = c.args.intake.now in
    let j : Session = c.poll.new.self in
    let e = c.in-Ok-Message.ensures in
    let served : Served = c.in-Ok-Message.field-0 in
    let mail : Mail = record { sender = c.in-Ok-Message.sender; to = c.in-Ok-Message.to; content = c.in-Ok-Message.content } in
    let now = c.now-now.result in
    let is : served ≡ Message mail.sender mail.to mail.content = c.in-Ok-Message.field-0-is in
    let early = timely i.heard now served (ap (λ (v : Served). is_over v) is) e.late in
    mail_goes g.H.Host.view o clock (g.D.Door.view c.args.door.now) (g.H.Host.view c.args.host.now) (g.H.Host.view c.take_mail.new.host) k (link c.args.link.now) (link c.poll.new.link) i j mail c.args.life now c.now-now.ensures.ledger
    (subst (λ (v : Served). Brings i (link c.args.link.now) (link c.poll.new.link) (mails_in v)) is e.brings) e.heard c.in-Ok.next c.taken.new.self c.taken.ensures.taken
    (λ serves. c.taken.ensures.serves (link c.poll.new.link) (e.serves early serves)) (c.in-Ok.ensures.ok t) goes

pub returns-in-Err-take_mail-clause-serves : goal.returns-in-Err-take_mail-clause-serves
returns-in-Err-take_mail-clause-serves g c t o clock k goes =
    let link = g.L.Link.view in
    let i : Session = c.args.intake.now in
    let j : Session = c.poll.new.self in
    let e = c.in-Ok-Message.ensures in
    let served : Served = c.in-Ok-Message.field-0 in
    let mail : Mail = record { sender = c.in-Ok-Message.sender; to = c.in-Ok-Message.to; content = c.in-Ok-Message.content } in
    let now = c.now-now.result in
    let is : served ≡ Message mail.sender mail.to mail.content = c.in-Ok-Message.field-0-is in
    let early = timely i.heard now served (ap (λ (v : Served). is_over v) is) e.late in
    let comes = subst (λ (v : Served). ComesTo v j (link c.args.link.now) (link c.poll.new.link)) is (e.comes early) in
    mail_refused g.H.Host.view o clock (g.D.Door.view c.args.door.now) (g.H.Host.view c.args.host.now) (g.H.Host.view c.take_mail.new.host) k (link c.args.link.now) (link c.poll.new.link) i j mail c.args.life now c.now-now.ensures.ledger
    (subst (λ (v : Served). Brings i (link c.args.link.now) (link c.poll.new.link) (mails_in v)) is e.brings) e.heard c.in-Err-take_mail.error comes.0 (e.counts.0 ∙ ap is_message is) (e.serves early)
    (subst (λ (v : Served). Completes v i (link c.args.link.now) (link c.poll.new.link)) is e.completes) (c.in-Err-take_mail.ensures.err t) goes

pub returns-in-Ok-Over-clause-serves : goal.returns-in-Ok-Over-clause-serves
returns-in-Ok-Over-clause-serves g c t o clock k goes =
    let link = g.L.Link.view in
    let door = g.D.Door.view in
    let e = c.in-Ok-Over.ensures in
    over_to g.H.Host.view o clock (door c.args.door.now) (door c.args.door.now) (g.H.Host.view c.args.host.now) k (link c.args.link.now) (link c.poll.new.link) c.args.intake.now c.poll.new.self c.args.life c.now-now.result c.now-now.ensures.ledger
    c.in-Ok-Over.field-0 c.in-Ok-Over.field-0-is e.counts.0 (λ late. (e.late late).1) e.comes e.serves e.brings goes

pub returns-in-Err-clause-serves : goal.returns-in-Err-clause-serves
returns-in-Err-clause-serves g c t o clock k goes =
    let link = g.L.Link.view in
    let door = g.D.Door.view in
    memory_to g.H.Host.view o clock (door c.args.door.now) (door c.args.door.now) (g.H.Host.view c.args.host.now) k (link c.args.link.now) (link c.poll.new.link) c.args.intake.now c.poll.new.self c.args.life c.now-now.result c.now-now.ensures.ledger
    c.in-Err.ensures.err goes

pub returns-in-Ok-clause-counts : goal.returns-in-Ok-clause-counts
returns-in-Ok-clause-counts g c first counted =
    let link = g.L.Link.view in
    let door = g.D.Door.view c.args.door.now in
    let m = link c.poll.new.link in
    let spares = subst (λ (v : Served). SparesServed v (link c.args.link.now).waits_left m.waits_left) c.in-Ok-Message.field-0-is c.in-Ok-Message.ensures.spares in
    mail_counted_at first door (link c.args.link.now) m c.args.life.given c.in-Ok.next.given c.in-Ok.ensures.given spares counted
