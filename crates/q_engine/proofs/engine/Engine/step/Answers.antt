use Rattle.std.proofs.Common.{refl}
use Rattle.q_engine.proofs.Causes.{asked_so, event_apart, event_cause, event_kind, none_asked, none_refused, refused_so}
use Rattle.q_engine.proofs.Stopping.{done_cause, made_cause, made_event_readable, made_kind, made_readable, stop_apart, stop_behind}
use Rattle.q_engine.proofs.engine.Engine.step.Goals as goal

pub returns-in-Err-clause-err : goal.returns-in-Err-clause-err
returns-in-Err-clause-err g c error is t w l h = c.in-Err.ensures.err error (stop_behind c.in-Err.stop error c.stopped_by.result c.stopped_by.ensures is) t w l h

pub returns-in-Err-clause-cause : goal.returns-in-Err-clause-cause
returns-in-Err-clause-cause g c = made_cause (g.H.Host.faults c.args.host.now) (g.H.Host.faults c.take.new.host) c.in-Err.stop c.stopped_by.result c.take.result c.in-Err.is c.stopped_by.ensures c.take.ensures.cause

pub returns-in-Some-clause-err : goal.returns-in-Some-clause-err
returns-in-Some-clause-err g c error of = absurd (event_apart c.in-Some.error error c.in-Some.ensures.kind of)

pub returns-in-Some-clause-kinds : goal.returns-in-Some-clause-kinds
returns-in-Some-clause-kinds g c error of = event_kind c.in-Some.error error c.in-Some.ensures.kind of

pub returns-in-Some-clause-cause : goal.returns-in-Some-clause-cause
returns-in-Some-clause-cause g c = event_cause (g.H.Host.faults c.args.host.now) c.in-Some.error c.in-Some.ensures.kind

pub returns-in-Err-clause-refused : goal.returns-in-Err-clause-refused
returns-in-Err-clause-refused g c w l agrees counts error is =
    absurd (none_refused c.refusal.result _ error c.in_default.is (c.refusal.ensures.ledger w l agrees counts) is)

pub returns-in-Err-clause-only_refused : goal.returns-in-Err-clause-only_refused
returns-in-Err-clause-only_refused g c error of event w l agrees counts = absurd (stop_apart c.stopped_by.result error c.in-Err.stop c.stopped_by.ensures of event)

pub returns-in-Err-clause-own : goal.returns-in-Err-clause-own
returns-in-Err-clause-own g c error of event = absurd (stop_apart c.stopped_by.result error c.in-Err.stop c.stopped_by.ensures of event)

pub returns-in-Some-clause-own : goal.returns-in-Some-clause-own
returns-in-Some-clause-own g c error of event =
    asked_so c.refusal.result _ c.in-Some.error error c.in-Some.is c.refusal.ensures.own of

pub returns-in-Some-clause-refused : goal.returns-in-Some-clause-refused
returns-in-Some-clause-refused g c w l agrees counts error is =
    (refused_so c.refusal.result _ c.in-Some.error error c.in-Some.is (c.refusal.ensures.ledger w l agrees counts) is, refl)

pub returns-in-Some-clause-only_refused : goal.returns-in-Some-clause-only_refused
returns-in-Some-clause-only_refused g c error of event w l agrees counts =
    asked_so c.refusal.result _ c.in-Some.error error c.in-Some.is (c.refusal.ensures.ledger w l agrees counts) of

pub returns-in-Ok-clause-refused : goal.returns-in-Ok-clause-refused
returns-in-Ok-clause-refused g c w l agrees counts error is =
    absurd (none_refused c.refusal.result _ error c.in_default.is (c.refusal.ensures.ledger w l agrees counts) is)

pub returns-in-Ok-clause-cause : goal.returns-in-Ok-clause-cause
returns-in-Ok-clause-cause g c = done_cause (g.H.Host.faults c.args.host.now) (g.H.Host.faults c.take.new.host) c.take.result _ c.take.ensures.cause

pub take-requires-clause-accepted : goal.take-requires-clause-accepted
take-requires-clause-accepted g c w l agrees counts = none_asked c.refusal.result _ c.in_default.is (c.refusal.ensures.ledger w l agrees counts)

pub returns-in-Err-clause-kinds : goal.returns-in-Err-clause-kinds
returns-in-Err-clause-kinds g c error of = made_kind c.stopped_by.result error c.in-Err.stop c.stopped_by.ensures of

pub returns-in-Err-clause-readable : goal.returns-in-Err-clause-readable
returns-in-Err-clause-readable g c t error of = made_readable g.H.Host.tells c.stopped_by.result error c.in-Err.stop c.stopped_by.ensures c.in-Err.ensures.readable t of

pub returns-in-Some-clause-readable : goal.returns-in-Some-clause-readable
returns-in-Some-clause-readable g c t error of = made_event_readable c.in-Some.error error c.in-Some.ensures.kind of
