use Rattle.std.proofs.Common.{◌≤◌, arith, inl, inr, refl}
use Rattle.q_engine.proofs.Stopping.{disk_stopped, host_readable, ok_stop, same_stop, stop_later, stop_passed, stop_readable}
use Rattle.q_engine.specs.declared.stop.Stop.TheVariants as stops
use Rattle.q_drain.proofs.poll.hear_report.Goals as goal

pub open_started-requires-clause-stands : goal.open_started-requires-clause-stands
open_started-requires-clause-stands g c t =
    let (clock, opens) = c.requires.opens t in
    (clock, opens c.in_ok-engine.engine c.tell_reply.new.host (c.in_ok-engine.ensures.ok t))

pub returns-in_err-engine-clause-err : goal.returns-in_err-engine-clause-err
returns-in_err-engine-clause-err g c error is t =
    inl (c.in_err-engine.ensures.err error (same_stop c.from_residual.result c.in_err-engine.field-0.0 (stops.Host error) c.from_residual.ensures.1 is) t, refl)

pub returns-in_err-engine-clause-cause : goal.returns-in_err-engine-clause-cause
returns-in_err-engine-clause-cause g c =
    stop_passed (g.H.Host.faults c.args.host.now) (g.H.Host.faults c.tell_reply.new.host) c.from_residual.result c.in_err-engine.field-0.0 c.from_residual.ensures.1 c.in_err-engine.ensures.cause

pub returns-in_err-known-clause-err : goal.returns-in_err-known-clause-err
returns-in_err-known-clause-err g c error is t =
    inr (record {
      next = c.in_ok-engine.engine;
      between = c.tell_reply.new.host;
      replied = c.in_ok-engine.ensures.ok t;
      fails = c.in_err-known.ensures.err t;
    })

pub returns-in_err-known-clause-cause : goal.returns-in_err-known-clause-cause
returns-in_err-known-clause-cause g c =
    let b = g.H.Host.faults c.tell_reply.new.host in
    let replied = c.in_ok-engine.ensures.cause in
    stop_later (g.H.Host.faults c.args.host.now) b (g.H.Host.faults c.open_started.new.host) c.from_residual-in_err-known.result replied.disk_later replied.tell_later
    (disk_stopped b (g.H.Host.faults c.open_started.new.host) c.from_residual-in_err-known.result c.in_err-known.field-0.0 c.from_residual-in_err-known.ensures.1 c.in_err-known.ensures.cause)

pub returns-clause-ok : goal.returns-clause-ok
returns-clause-ok g c t = record {
  between = c.tell_reply.new.host;
  replied = c.in_ok-engine.ensures.ok t;
  opened = c.in_ok-known.ensures.ok t;
}

pub returns-clause-polling : goal.returns-clause-polling
returns-clause-polling g c = c.in_ok-known.ensures.last.1

pub returns-clause-cause : goal.returns-clause-cause
returns-clause-cause g c =
    let replied = c.in_ok-engine.ensures.cause in
    let opened = c.in_ok-known.ensures.cause in
    ok_stop (g.H.Host.faults c.args.host.now) (g.H.Host.faults c.open_started.new.host) _
    (omega (arith, replied.disk_later, opened.disk_later)) (omega (arith, replied.tell_later, opened.tell_later))

pub returns-in_err-engine-clause-readable : goal.returns-in_err-engine-clause-readable
returns-in_err-engine-clause-readable g c = stop_readable g.H.Host.tells c.from_residual.result c.in_err-engine.field-0.0 c.from_residual.ensures.1 c.in_err-engine.ensures.readable

pub returns-in_err-known-clause-readable : goal.returns-in_err-known-clause-readable
returns-in_err-known-clause-readable g c = host_readable g.H.Host.tells c.from_residual-in_err-known.result c.in_err-known.field-0.0 c.from_residual-in_err-known.ensures.1

pub returns-clause-opens : goal.returns-clause-opens
returns-clause-opens g c = (c.in_ok-known.ensures.last.0, c.in_ok-known.ensures.opens)

pub returns-clause-fits : goal.returns-clause-fits
returns-clause-fits g c = c.in_ok-known.ensures.fits
