use Rattle.std.proofs.Common.{◌≡◌}
use Rattle.q_words.specs.declared.request.Request.TheVariants.{Submit}
use Rattle.q_books.specs.HostStands.{TellsCrashes}
use Rattle.q_host.proofs.Stays.{stays_here}
use Rattle.q_top.proofs.Serving.{still_serves}
use Rattle.q_top.proofs.Submissions.{no_content, with_content}
use Rattle.q_top.proofs.Named.{content_named, of_source}
use Rattle.q_top.proofs.Readable.{content_readable}
use Rattle.q_top.proofs.submitting.submit_content.Goals as goal

pub returns-in-Ok-clause-submits : goal.returns-in-Ok-clause-submits
returns-in-Ok-clause-submits g c t =
    let left = g.S.Source.left in
    let given = g.C.Clock.given in
    with_content c.args.sender c.args.to (record { before = left c.args.source.now; after = left c.read_all.new.source }) (record { before = given c.args.clock.now; after = given c.now-moment.new.self })
    c.in-Ok.content c.now-moment.result (g.H.Host.view c.args.host.now) (g.H.Host.view c.submit_letter.new.host) c.submit_letter.result c.in-Ok.ensures.whole c.now-moment.ensures.given (c.submit_letter.ensures.submits t)

pub returns-in-Err-clause-submits : goal.returns-in-Err-clause-submits
returns-in-Err-clause-submits g c t =
    let left = g.S.Source.left in
    let given = g.C.Clock.given in
    rw c.content_status.ensures.exact (no_content c.args.sender c.args.to (record { before = left c.args.source.now; after = left c.read_all.new.source }) (record { before = given c.args.clock.now; after = given c.args.clock.now })
    (g.H.Host.view c.args.host.now) c.in-Err.error c.in-Err.ensures.error)

pub returns-in-Ok-clause-readable : goal.returns-in-Ok-clause-readable
returns-in-Ok-clause-readable g c t = c.submit_letter.ensures.readable t

pub returns-in-Err-clause-readable : goal.returns-in-Err-clause-readable
returns-in-Err-clause-readable g c t = rw c.content_status.ensures.exact (content_readable c.in-Err.error)

pub returns-in-Ok-clause-serves : goal.returns-in-Ok-clause-serves
returns-in-Ok-clause-serves g c t = c.submit_letter.ensures.serves t

pub returns-in-Err-clause-serves : goal.returns-in-Err-clause-serves
returns-in-Err-clause-serves g c t =
    let u = g.H.Host.view c.args.host.now in
    let lawful : TellsCrashes u = record { only = g.met.H.Host.only_now c.args.host.now; told = g.met.H.Host.told_stays c.args.host.now } in
    still_serves u u lawful (stays_here u)

pub returns-in-Ok-clause-named : goal.returns-in-Ok-clause-named
returns-in-Ok-clause-named g c =
    of_source (λ r. r ≡ Submit c.args.sender c.args.to) (g.S.Source.left c.args.source.now) c.in-Ok.content c.submit_letter.result c.in-Ok.ensures.whole c.submit_letter.ensures.named

pub returns-in-Err-clause-named : goal.returns-in-Err-clause-named
returns-in-Err-clause-named g c = rw c.content_status.ensures.exact (content_named c.args.sender c.args.to (g.S.Source.left c.args.source.now) c.in-Err.error c.in-Err.ensures.error)
