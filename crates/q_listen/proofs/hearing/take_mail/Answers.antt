use Rattle.std.proofs.Common.{refl}
use Rattle.q_listen.proofs.Forming.{mail_form}
use Rattle.q_listen.proofs.Mails.{stopped_mail, took_mail}
use Rattle.q_listen.proofs.Refusing.{mail_kind, mail_of_life, mail_unlisted}
use Rattle.q_listen.specs.Runs.{ledger_of}
use Rattle.q_smtpd.specs.Places.{Mail}
use Rattle.q_listen.proofs.hearing.take_mail.Goals as goal

pub hear-requires-clause-form : goal.hear-requires-clause-form
hear-requires-clause-form g c = mail_form (record { sender = c.args.sender; to = c.args.to; content = c.args.content }) c.requires.form

pub returns-in-Ok-clause-ok : goal.returns-in-Ok-clause-ok
returns-in-Ok-clause-ok g c t clock o s course =
    let view = g.H.Host.view in
    let mail : Mail = record { sender = c.args.sender; to = c.args.to; content = c.args.content } in
    let life = c.args.life in
    took_mail view o clock (view c.args.host.now) life s mail (mail_form mail c.requires.form) course (record { engine = c.in-Ok.engine; given = life.given; first = life.first }) (view c.hear.new.host) refl refl
    (c.in-Ok.ensures.ok 0 t o.world (ledger_of o.world o.book s.told) course.stands)

pub returns-in-Ok-clause-stands : goal.returns-in-Ok-clause-stands
returns-in-Ok-clause-stands g c t =
    let (w, l, stands) = c.requires.stands t in
    let took = c.in-Ok.ensures.ok 0 t w l stands in
    (w, _, took.stands)

pub listen_error-requires : goal.listen_error-requires
listen_error-requires g c =
    let mail : Mail = record { sender = c.args.sender; to = c.args.to; content = c.args.content } in
    mail_unlisted c.in-Err.error (mail_kind c.args.life.engine mail c.in-Err.error (c.requires.going.timed c.requires.heard) c.requires.form c.in-Err.ensures.named)

pub returns-in-Err-clause-err : goal.returns-in-Err-clause-err
returns-in-Err-clause-err g c t clock o s course =
    let view = g.H.Host.view in
    let mail : Mail = record { sender = c.args.sender; to = c.args.to; content = c.args.content } in
    let life = c.args.life in
    let kind = mail_kind life.engine mail c.in-Err.error (c.requires.going.timed c.requires.heard) c.requires.form c.in-Err.ensures.named in
    rw c.listen_error.ensures (stopped_mail view o clock (view c.args.host.now) life s mail (mail_form mail c.requires.form) course c.in-Err.error (view c.hear.new.host) kind
    (c.in-Err.ensures.err 0 t o.world (ledger_of o.world o.book s.told) course.stands))

pub returns-in-Err-clause-named : goal.returns-in-Err-clause-named
returns-in-Err-clause-named g c =
    let mail : Mail = record { sender = c.args.sender; to = c.args.to; content = c.args.content } in
    rw c.listen_error.ensures (mail_of_life c.in-Err.error (mail_kind c.args.life.engine mail c.in-Err.error (c.requires.going.timed c.requires.heard) c.requires.form c.in-Err.ensures.named))
