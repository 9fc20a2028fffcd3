use Rattle.std.proofs.Common.{refl}
use Rattle.q_books.specs.HostStands.{TellsCrashes}
use Rattle.q_engine.specs.Refusals.{refusal_of}
use Rattle.q_replay.proofs.Submitting.{engine_passed, ok_lists}
use Rattle.q_replay.proofs.Named.{ended_host}
use Rattle.q_replay.proofs.Takings.{error_is, never_ends, took_end}
use Rattle.q_replay.proofs.Readable.{ended_readable}
use Rattle.q_replay.proofs.taking.end.Goals as goal

pub returns-in-Ok-clause-ok : goal.returns-in-Ok-clause-ok
returns-in-Ok-clause-ok g c t w l h =
    let v = g.H.Host.view c.args.host.now in
    let lawful : TellsCrashes v = record { only = g.met.H.Host.only_now c.args.host.now; told = g.met.H.Host.told_stays c.args.host.now } in
    took_end w l c.args.engine v h lawful (g.H.Host.view c.finish.new.host) (c.in-Ok.ensures.ok t) (c.finish.ensures.files t)

pub returns-in-Err-clause-err : goal.returns-in-Err-clause-err
returns-in-Err-clause-err g c t w l h =
    let v = g.H.Host.view c.args.host.now in
    let error = c.in-Err.error in
    let lawful : TellsCrashes v = record { only = g.met.H.Host.only_now c.args.host.now; told = g.met.H.Host.told_stays c.args.host.now } in
    rw c.replay_error.ensures.exact (never_ends w l c.args.engine v h lawful c.args.line error (g.H.Host.view c.finish.new.host) (c.in-Err.ensures.kinds error refl) (λ fault is. c.in-Err.ensures.err fault (error_is error (refusal_of fault) is) t))

pub returns-in-Ok-clause-cause : goal.returns-in-Ok-clause-cause
returns-in-Ok-clause-cause g c = ok_lists (g.H.Host.faults c.args.host.now) (g.H.Host.faults c.finish.new.host) _ c.finish.ensures.cause.disk_later c.finish.ensures.cause.tell_later

pub returns-in-Err-clause-cause : goal.returns-in-Err-clause-cause
returns-in-Err-clause-cause g c =
    engine_passed (g.H.Host.faults c.args.host.now) (g.H.Host.faults c.finish.new.host) c.args.line c.in-Err.error c.replay_error.result c.finish.result c.in-Err.is c.replay_error.ensures.exact c.finish.ensures.cause

pub returns-in-Err-clause-readable : goal.returns-in-Err-clause-readable
returns-in-Err-clause-readable g c t = rw c.replay_error.ensures.exact (ended_readable c.args.line c.in-Err.error (c.in-Err.ensures.kinds c.in-Err.error refl))

pub returns-in-Err-clause-named : goal.returns-in-Err-clause-named
returns-in-Err-clause-named g c = rw c.replay_error.ensures.exact (ended_host c.args.line c.in-Err.error (c.in-Err.ensures.kinds c.in-Err.error refl))
