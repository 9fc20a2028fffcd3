use Rattle.std.proofs.Common.{◌≡◌, Some}
use Rattle.q_words.specs.declared.request.Request.TheVariants.{Submit}
use Rattle.q_books.specs.HostStands.{TellsCrashes}
use Rattle.q_top.proofs.FirstRefusals.{never_source, submitted_so, unread_submission}
use Rattle.q_top.proofs.RunsBehind.{still_fit}
use Rattle.q_top.proofs.Serving.{still_serves, submission_serves}
use Rattle.q_top.proofs.Named.{conf_named, submitted_named}
use Rattle.q_top.proofs.Readable.{conf_readable, ended_readable}
use Rattle.q_top.proofs.submitting.submit_letter.Goals as goal

pub returns-in-Ok-clause-submits : goal.returns-in-Ok-clause-submits
returns-in-Ok-clause-submits g c t =
    let u = g.H.Host.view c.args.host.now in
    let lawful : TellsCrashes u = record { only = g.met.H.Host.only_now c.args.host.now; told = g.met.H.Host.told_stays c.args.host.now } in
    rw c.status_of.ensures.exact (submitted_so c.in-Ok.conf u (g.H.Host.view c.read_conf.new.host) (g.H.Host.view c.submit.new.host) lawful (c.read_conf.ensures.stays t) (c.in-Ok.ensures.exact t) c.submit.result (c.submit.ensures.damaged t) (c.submit.ensures.only_damaged t)
    c.args.moment c.args.letter (c.submit.ensures.ends t))

pub returns-in-Err-clause-submits : goal.returns-in-Err-clause-submits
returns-in-Err-clause-submits g c t =
    let u = g.H.Host.view c.args.host.now in
    let lawful : TellsCrashes u = record { only = g.met.H.Host.only_now c.args.host.now; told = g.met.H.Host.told_stays c.args.host.now } in
    rw c.conf_status.ensures.exact (unread_submission u (g.H.Host.view c.read_conf.new.host) lawful (c.read_conf.ensures.stays t) g.H.Host.tells t c.args.moment c.args.letter c.in-Err.error c.in-Err.ensures.fault)

pub submit-requires-clause-spool : goal.submit-requires-clause-spool
submit-requires-clause-spool g c t =
    let u = g.H.Host.view c.args.host.now in
    let lawful : TellsCrashes u = record { only = g.met.H.Host.only_now c.args.host.now; told = g.met.H.Host.told_stays c.args.host.now } in
    still_fit u (g.H.Host.view c.read_conf.new.host) lawful (c.read_conf.ensures.stays t) (c.requires.spool t)

pub returns-in-Ok-clause-no_source : goal.returns-in-Ok-clause-no_source
returns-in-Ok-clause-no_source g c is = never_source c.submit.result c.submit.ensures.no_source (rw c.status_of.ensures.exact at is)

pub returns-in-Ok-clause-readable : goal.returns-in-Ok-clause-readable
returns-in-Ok-clause-readable g c t = rw c.status_of.ensures.exact (ended_readable c.submit.result (c.submit.ensures.readable t))

pub returns-in-Err-clause-readable : goal.returns-in-Err-clause-readable
returns-in-Err-clause-readable g c t = rw c.conf_status.ensures.exact (conf_readable c.in-Err.error)

pub returns-in-Ok-clause-serves : goal.returns-in-Ok-clause-serves
returns-in-Ok-clause-serves g c t =
    let u = g.H.Host.view c.args.host.now in
    let lawful : TellsCrashes u = record { only = g.met.H.Host.only_now c.args.host.now; told = g.met.H.Host.told_stays c.args.host.now } in
    submission_serves c.in-Ok.conf u (g.H.Host.view c.read_conf.new.host) (g.H.Host.view c.submit.new.host) lawful (c.read_conf.ensures.stays t) c.in-Ok.ensures.range c.submit.result c.args.moment c.args.letter c.requires.moment c.requires.form (c.submit.ensures.ends t)

pub returns-in-Err-clause-serves : goal.returns-in-Err-clause-serves
returns-in-Err-clause-serves g c t =
    let u = g.H.Host.view c.args.host.now in
    let lawful : TellsCrashes u = record { only = g.met.H.Host.only_now c.args.host.now; told = g.met.H.Host.told_stays c.args.host.now } in
    still_serves u (g.H.Host.view c.read_conf.new.host) lawful (c.read_conf.ensures.stays t)

pub returns-in-Ok-clause-named : goal.returns-in-Ok-clause-named
returns-in-Ok-clause-named g c = rw c.status_of.ensures.exact (submitted_named c.args.letter.sender c.args.letter.to c.args.letter.content c.submit.result c.submit.ensures.named)

pub returns-in-Err-clause-named : goal.returns-in-Err-clause-named
returns-in-Err-clause-named g c = rw c.conf_status.ensures.exact (conf_named (λ r. r ≡ Submit c.args.letter.sender c.args.letter.to) (Some c.args.letter.content) c.in-Err.error c.in-Err.ensures.some_fault)
