use Rattle.std.proofs.Common.{◌≡◌, ◌∙◌, [], ap, refl, subst, sym}
use Rattle.std.proofs.lemmas.Bool.{and_from}
use Rattle.std.specs.List.{list_all}
use Rattle.std.specs.Prelude.{Err}
use Rattle.q_books.specs.HostStands.{TellsCrashes}
use Rattle.q_drain.proofs.Awaited.{reply_unrefused, unless_event}
use Rattle.q_drain.proofs.Causes.{engine_ok, engine_passed, engine_readable}
use Rattle.q_drain.proofs.ReplyTurns.{accepted_may, fault_halts, halts_nothing, halts_reply, none_refused, refused_unless}
use Rattle.q_drain.specs.Replied.{entries_replied, reply_event}
use Rattle.q_core.specs.Hearing.{has_log_code}
use Rattle.q_engine.proofs.Stopping.{told_kinds}
use Rattle.q_engine.specs.Refusals.{refused_event}
use Rattle.q_engine.specs.declared.stop.Stop.TheVariants as stops
use Rattle.q_entries.specs.Runs.{HaltsRun}
use Rattle.q_model.specs.Replies.{fits_state}
use Rattle.q_model.specs.Run.{turn}
use Rattle.q_model.specs.declared.event.LifeEvent.TheVariants.{Heard}
use Rattle.q_drain.proofs.reply.tell_reply.Goals as goal

pub step-requires-clause-form : goal.step-requires-clause-form
step-requires-clause-form g c = and_from (fits_state c.args.report.site c.args.report.outcomes) (list_all has_log_code c.args.report.outcomes) c.requires.fits c.requires.codes

pub returns-in-Ok-clause-ok : goal.returns-in-Ok-clause-ok
returns-in-Ok-clause-ok g c t w l stands =
    let r = c.args.report in
    let event = reply_event r in
    record {
      may = accepted_may l r.number r.site r.outcomes c.requires.fits (none_refused (refused_event l event) (λ error is. let no = (c.in-Ok.ensures.refused w l stands.core stands.counts error is).0 in cc));
      took = c.in-Ok.ensures.ok t w l stands;
    }

pub returns-in-Err-clause-err : goal.returns-in-Err-clause-err
returns-in-Err-clause-err g c error is t w l stands =
    let u = g.H.Host.view c.args.host.now in
    let x = g.H.Host.view c.step.new.host in
    let lawful : TellsCrashes u = record { only = g.met.H.Host.only_now c.args.host.now; told = g.met.H.Host.told_stays c.args.host.now } in
    let why = c.in-Err.error in
    let r = c.args.report in
    let fits = c.requires.fits in
    halts_reply w l r error u x (λ may.
    fault_halts w l (turn w l (Heard (reply_event r))) u x why error lawful stands.host (told_kinds why (c.in-Err.ensures.kinds why refl) (c.in-Err.ensures.readable t why refl))
    (λ fault same. c.in-Err.ensures.err fault (ap (λ e. Err e) same) t w l stands)
    (λ of. let refused = c.in-Err.ensures.only_refused why refl of w l stands.core stands.counts in ap g.H.Host.view (c.in-Err.ensures.refused w l stands.core stands.counts why refused).1)
    (let one : c.stop_of.result ≡ stops.Host error = cc in sym c.stop_of.ensures ∙ one))
    (λ never.
    let refused = refused_unless l r.number r.site r.outcomes fits never in
    let same : u ≡ x = sym (ap g.H.Host.view (c.in-Err.ensures.refused w l stands.core stands.counts refused.0 refused.1).1) in
    subst (λ v. HaltsRun w l [] error u v) same (halts_nothing w l [] error u lawful stands.host))

pub stop_of-requires : goal.stop_of-requires
stop_of-requires g c =
    let why = c.in-Err.error in
    unless_event why (c.in-Err.ensures.kinds why refl) (λ of. reply_unrefused c.args.engine c.args.report why c.requires.timed c.requires.awaited (c.in-Err.ensures.own why refl of))

pub returns-in-Ok-clause-cause : goal.returns-in-Ok-clause-cause
returns-in-Ok-clause-cause g c = engine_ok (g.H.Host.faults c.args.host.now) (g.H.Host.faults c.step.new.host) c.step.result c.in-Ok.next c.step.ensures.cause

pub returns-in-Err-clause-cause : goal.returns-in-Err-clause-cause
returns-in-Err-clause-cause g c = engine_passed (g.H.Host.faults c.args.host.now) (g.H.Host.faults c.step.new.host) c.in-Err.error c.stop_of.result c.step.result c.in-Err.is c.stop_of.ensures c.step.ensures.cause

pub returns-in-Err-clause-readable : goal.returns-in-Err-clause-readable
returns-in-Err-clause-readable g c t area name of = engine_readable c.in-Err.error c.stop_of.result area name c.stop_of.ensures (c.in-Err.ensures.readable t c.in-Err.error refl) of
