use Rattle.std.proofs.Common.{ap, refl}
use Rattle.q_books.specs.HostStands.{TellsCrashes}
use Rattle.q_engine.specs.Refusals.{refusal_of, refused_event}
use Rattle.q_replay.proofs.Submitting.{engine_passed, ok_lists}
use Rattle.q_replay.proofs.Named.{why_heard}
use Rattle.q_replay.proofs.Takings.{error_is, heard, never_heard, not_refused}
use Rattle.q_engine.proofs.EventForms.{form}
use Rattle.q_replay.proofs.Readable.{engine_readable}
use Rattle.q_replay.proofs.taking.hear.Goals as goal

pub step-requires-clause-form : goal.step-requires-clause-form
step-requires-clause-form g c = form c.args.event c.requires.form

pub returns-in-Ok-clause-ok : goal.returns-in-Ok-clause-ok
returns-in-Ok-clause-ok g c at t w l h =
    let v = g.H.Host.view c.args.host.now in
    let lawful : TellsCrashes v = record { only = g.met.H.Host.only_now c.args.host.now; told = g.met.H.Host.told_stays c.args.host.now } in
    let accepted = not_refused c.step.result c.in-Ok.next (refused_event l c.args.event) c.in-Ok.is (λ why is. (c.step.ensures.refused w l h.core h.counts why is).0) in
    heard w l c.args.engine c.args.event at v h lawful c.in-Ok.next (g.H.Host.view c.step.new.host) accepted (c.in-Ok.ensures.ok t)

pub returns-in-Err-clause-err : goal.returns-in-Err-clause-err
returns-in-Err-clause-err g c at t w l h =
    let v = g.H.Host.view c.args.host.now in
    let error = c.in-Err.error in
    let lawful : TellsCrashes v = record { only = g.met.H.Host.only_now c.args.host.now; told = g.met.H.Host.told_stays c.args.host.now } in
    rw c.replay_error.ensures.exact (never_heard w l c.args.engine c.args.event at v h lawful c.args.line error (g.H.Host.view c.step.new.host) (record {
      kinds = c.in-Err.ensures.kinds error refl;
      readable = c.in-Err.ensures.readable t error refl;
      halts = λ fault is. c.in-Err.ensures.err fault (error_is error (refusal_of fault) is) t;
      refused = λ why is. ap g.H.Host.view (c.in-Err.ensures.refused w l h.core h.counts why is).1;
      only = λ of. c.in-Err.ensures.only_refused error refl of w l h.core h.counts;
    }))

pub returns-in-Ok-clause-cause : goal.returns-in-Ok-clause-cause
returns-in-Ok-clause-cause g c =
    ok_lists (g.H.Host.faults c.args.host.now) (g.H.Host.faults c.step.new.host) c.in-Ok.next c.step.ensures.cause.disk_later c.step.ensures.cause.tell_later

pub returns-in-Err-clause-cause : goal.returns-in-Err-clause-cause
returns-in-Err-clause-cause g c =
    engine_passed (g.H.Host.faults c.args.host.now) (g.H.Host.faults c.step.new.host) c.args.line c.in-Err.error c.replay_error.result c.step.result c.in-Err.is c.replay_error.ensures.exact c.step.ensures.cause

pub returns-in-Err-clause-readable : goal.returns-in-Err-clause-readable
returns-in-Err-clause-readable g c t = rw c.replay_error.ensures.exact (engine_readable c.args.line c.in-Err.error (c.in-Err.ensures.readable t c.in-Err.error refl))

pub returns-in-Err-clause-named : goal.returns-in-Err-clause-named
returns-in-Err-clause-named g c = rw c.replay_error.ensures.exact (why_heard c.args.line c.args.engine c.args.event c.in-Err.error (c.in-Err.ensures.kinds c.in-Err.error refl) (c.in-Err.ensures.own c.in-Err.error refl))
