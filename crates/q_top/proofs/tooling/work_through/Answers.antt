use Rattle.std.proofs.Common.{◌≡◌, inl, inr, refl}
use Rattle.q_books.specs.HostStands.{TellsCrashes}
use Rattle.q_host.proofs.Stays.{stays_here}
use Rattle.q_top.proofs.Named.{ids_named, listed_some}
use Rattle.q_top.proofs.Readable.{ids_readable}
use Rattle.q_top.proofs.Serving.{still_serves}
use Rattle.q_top.specs.Tools.{work_of}
use Rattle.q_words.specs.declared.request.Request.TheVariants.{Tool}
use Rattle.q_top.proofs.tooling.work_through.Goals as goal

pub returns-in-Ok-clause-works : goal.returns-in-Ok-clause-works
returns-in-Ok-clause-works g c t = inr (record { ids = c.in-Ok.ids; lists = c.in-Ok.ensures.ids; works = c.work_now.ensures.works t })

pub returns-in-Err-clause-works : goal.returns-in-Err-clause-works
returns-in-Err-clause-works g c t = inl (record { error = c.in-Err.error; says = c.ids_status.ensures.exact; is = c.in-Err.ensures.refused; stays = stays_here (g.H.Host.view c.args.host.now) })

pub returns-in-Err-clause-serves : goal.returns-in-Err-clause-serves
returns-in-Err-clause-serves g c t =
    let u = g.H.Host.view c.args.host.now in
    let lawful : TellsCrashes u = record { only = g.met.H.Host.only_now c.args.host.now; told = g.met.H.Host.told_stays c.args.host.now } in
    still_serves u u lawful (stays_here u)

pub returns-in-Err-clause-readable : goal.returns-in-Err-clause-readable
returns-in-Err-clause-readable g c t = rw c.ids_status.ensures.exact (ids_readable c.in-Err.error)

pub returns-in-Ok-clause-named : goal.returns-in-Ok-clause-named
returns-in-Ok-clause-named g c tool is = c.work_now.ensures.named tool (g.S.Source.left c.args.source.now) (λ lacks. listed_some (work_of tool) is)

pub returns-in-Err-clause-named : goal.returns-in-Err-clause-named
returns-in-Err-clause-named g c tool is = rw c.ids_status.ensures.exact (ids_named (λ r. r ≡ Tool tool) (g.S.Source.left c.args.source.now) c.in-Err.error (tool, is, refl) c.in-Err.ensures.refused)
