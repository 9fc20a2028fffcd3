use Rattle.q_books.proofs.Results.{on_ok}
use Rattle.q_books.specs.HostStands.{TellsCrashes}
use Rattle.q_model.specs.Step.{after}
use Rattle.q_engine.specs.Heard.{Hearing}
use Rattle.q_engine.proofs.Stopping.{host_readable, host_stopped, same_host, stop_later}
use Rattle.q_engine.proofs.Turns.{halts_deciding, halts_hearing, took_turn}
use Rattle.q_engine.proofs.engine.Engine.take.Goals as goal

pub returns-in_err-hear-clause-err : goal.returns-in_err-hear-clause-err
returns-in_err-hear-clause-err g c error is t w l h =
    let lawful : TellsCrashes (g.H.Host.view c.args.host.now) = (record { only = g.met.H.Host.only_now c.args.host.now; told = g.met.H.Host.told_stays c.args.host.now }) in
    halts_hearing w l c.args.event error _ _ lawful h.host (c.in_err-hear.ensures.err error (same_host c.from_residual.result c.in_err-hear.field-0.0 error c.from_residual.ensures.1 is) t w l h)

pub decisions-requires-clause-stands : goal.decisions-requires-clause-stands
decisions-requires-clause-stands g c t =
    let (w, l, h) = c.requires.stands t in
    (w, after w l (Hearing c.args.event l), (c.in_ok-hear.ensures.ok t w l h).stands)

pub returns-clause-ok : goal.returns-clause-ok
returns-clause-ok g c = on_ok c.decisions.result (λ did t w l h.
    let lawful : TellsCrashes (g.H.Host.view c.args.host.now) = (record { only = g.met.H.Host.only_now c.args.host.now; told = g.met.H.Host.told_stays c.args.host.now }) in
    let heard = c.in_ok-hear.ensures.ok t w l h in
    took_turn w l c.args.event c.decisions.new.self _ _ _ lawful h.host heard.does heard.notes (did t w (after w l (Hearing c.args.event l)) heard.stands)) c.decisions.ensures.ok

pub returns-clause-err : goal.returns-clause-err
returns-clause-err g c error is t w l h =
    let lawful : TellsCrashes (g.H.Host.view c.args.host.now) = (record { only = g.met.H.Host.only_now c.args.host.now; told = g.met.H.Host.told_stays c.args.host.now }) in
    let heard = c.in_ok-hear.ensures.ok t w l h in
    halts_deciding w l c.args.event error _ _ _ lawful h.host heard.does (c.decisions.ensures.err error is t w (after w l (Hearing c.args.event l)) heard.stands)

pub returns-in_err-hear-clause-readable : goal.returns-in_err-hear-clause-readable
returns-in_err-hear-clause-readable g c = host_readable g.H.Host.tells c.from_residual.result c.in_err-hear.field-0.0 c.from_residual.ensures.1

pub returns-in_err-hear-clause-cause : goal.returns-in_err-hear-clause-cause
returns-in_err-hear-clause-cause g c = host_stopped (g.H.Host.faults c.args.host.now) (g.H.Host.faults c.hear.new.host) c.from_residual.result c.in_err-hear.field-0.0 c.from_residual.ensures.1 c.in_err-hear.ensures.cause

pub returns-clause-cause : goal.returns-clause-cause
returns-clause-cause g c =
    let heard = c.in_ok-hear.ensures.cause in
    stop_later (g.H.Host.faults c.args.host.now) (g.H.Host.faults c.hear.new.host) (g.H.Host.faults c.decisions.new.host) c.decisions.result heard.disk_later heard.tell_later c.decisions.ensures.cause
