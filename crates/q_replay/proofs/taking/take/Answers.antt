use Rattle.std.proofs.Common.{arith, None, Option, Some, ◌≡◌, false}
use Rattle.std.specs.Prelude.{Result, IfErr}
use Rattle.q_engine.specs.declared.engine.Engine.{Engine}
use Rattle.q_events.specs.declared.list_item.ListItem.TheVariants.{End, Step}
use Rattle.q_replay.proofs.FaultyLines.{end_blamed, restart_blamed, step_blamed}
use Rattle.q_replay.proofs.Named.{heard_named, host_named, named_begins}
use Rattle.q_replay.proofs.Replaying.{passed_as}
use Rattle.q_replay.proofs.Submitting.{cause_on, ok_lists}
use Rattle.q_replay.proofs.Takings.{for_item, for_item_up, never_restarts, passed_on, restarts}
use Rattle.q_replay.specs.Named.{BlamesItem, IsNamed}
use Rattle.q_replay.specs.Takings.{ReplayCause, is_unreadable}
use Rattle.q_replay.specs.declared.error.ReplayError.{ReplayError}
use Rattle.q_replay.proofs.taking.take.Goals as goal

pub returns-in_ok-hear-in-Step-clause-ok : goal.returns-in_ok-hear-in-Step-clause-ok
returns-in_ok-hear-in-Step-clause-ok g c t =
    for_item c.args.params c.args.engine (Step c.in-Step.event c.in-Step.line) c.args.item (Some c.in_ok-hear-in-Step.field-0) (g.H.Host.view c.args.host.now) (g.H.Host.view c.hear.new.host) c.in-Step.is (c.in_ok-hear-in-Step.ensures.ok c.in-Step.line t)

pub returns-in_ok-begin_life-in-Restart-clause-ok : goal.returns-in_ok-begin_life-in-Restart-clause-ok
returns-in_ok-begin_life-in-Restart-clause-ok g c t =
    restarts c.args.params c.release-table.result c.args.engine c.in_ok-begin_life-in-Restart.field-0 c.args.item (g.H.Host.view c.args.host.now) (g.H.Host.view c.begin_life.new.host) c.in-Restart.is c.release-table.ensures (c.in_ok-begin_life-in-Restart.ensures.ok t)

pub returns-in_err-hear-in-Step-clause-err : goal.returns-in_err-hear-in-Step-clause-err
returns-in_err-hear-in-Step-clause-err g c =
    let error = c.in_err-hear-in-Step.field-0.0 in
    passed_on c.from_residual.result error _ c.from_residual.ensures.1 (λ t.
    for_item_up c.args.params c.args.engine (Step c.in-Step.event c.in-Step.line) c.args.item c.args.line error (g.H.Host.view c.args.host.now) (g.H.Host.view c.hear.new.host) c.in-Step.is (c.in_err-hear-in-Step.ensures.err c.in-Step.line t))

pub returns-in_err-begin_life-in-Restart-clause-err : goal.returns-in_err-begin_life-in-Restart-clause-err
returns-in_err-begin_life-in-Restart-clause-err g c =
    let error = c.in_err-begin_life-in-Restart.field-0.0 in
    let r = c.from_residual-in_err-begin_life-in-Restart in
    passed_on r.result error _ r.ensures.1 (λ t.
    never_restarts c.args.params c.release-table.result c.args.engine c.args.item c.args.line error (g.H.Host.view c.args.host.now) (g.H.Host.view c.begin_life.new.host) c.in-Restart.is c.release-table.ensures (c.in_err-begin_life-in-Restart.ensures.err t))

pub returns-in_err-end-in-End-clause-err : goal.returns-in_err-end-in-End-clause-err
returns-in_err-end-in-End-clause-err g c =
    let error = c.in_err-end-in-End.field-0.0 in
    let r = c.from_residual-in_err-end-in-End in
    passed_on r.result error _ r.ensures.1 (λ t.
    for_item_up c.args.params c.args.engine End c.args.item c.args.line error (g.H.Host.view c.args.host.now) (g.H.Host.view c.end.new.host) c.in-End.is (c.in_err-end-in-End.ensures.err t))

pub returns-in_ok-end-in-End-clause-ok : goal.returns-in_ok-end-in-End-clause-ok
returns-in_ok-end-in-End-clause-ok g c t =
    for_item c.args.params c.args.engine End c.args.item None (g.H.Host.view c.args.host.now) (g.H.Host.view c.end.new.host) c.in-End.is (c.in_ok-end-in-End.ensures.ok t)

pub returns-in_ok-hear-in-Step-clause-cause : goal.returns-in_ok-hear-in-Step-clause-cause
returns-in_ok-hear-in-Step-clause-cause g c =
    ok_lists (g.H.Host.faults c.args.host.now) (g.H.Host.faults c.hear.new.host) _ c.hear.ensures.cause.disk_later c.hear.ensures.cause.tell_later

pub returns-in_ok-begin_life-in-Restart-clause-cause : goal.returns-in_ok-begin_life-in-Restart-clause-cause
returns-in_ok-begin_life-in-Restart-clause-cause g c =
    ok_lists (g.H.Host.faults c.args.host.now) (g.H.Host.faults c.begin_life.new.host) _ c.begin_life.ensures.cause.disk_later c.begin_life.ensures.cause.tell_later

pub returns-in_err-hear-in-Step-clause-cause : goal.returns-in_err-hear-in-Step-clause-cause
returns-in_err-hear-in-Step-clause-cause g c =
    let a = g.H.Host.faults c.args.host.now in
    let d = g.H.Host.faults c.hear.new.host in
    let error = c.in_err-hear-in-Step.field-0.0 in
    passed_as c.from_residual.result error (λ (r : Result (Option Engine) ReplayError). ReplayCause a d r) c.from_residual.ensures.1 (cause_on a a d error (omega arith) (omega arith) c.in_err-hear-in-Step.ensures.cause)

pub returns-in_err-begin_life-in-Restart-clause-cause : goal.returns-in_err-begin_life-in-Restart-clause-cause
returns-in_err-begin_life-in-Restart-clause-cause g c =
    let a = g.H.Host.faults c.args.host.now in
    let d = g.H.Host.faults c.begin_life.new.host in
    let error = c.in_err-begin_life-in-Restart.field-0.0 in
    passed_as c.from_residual-in_err-begin_life-in-Restart.result error (λ (r : Result (Option Engine) ReplayError). ReplayCause a d r) c.from_residual-in_err-begin_life-in-Restart.ensures.1 (cause_on a a d error (omega arith) (omega arith) c.in_err-begin_life-in-Restart.ensures.cause)

pub returns-in_err-end-in-End-clause-cause : goal.returns-in_err-end-in-End-clause-cause
returns-in_err-end-in-End-clause-cause g c =
    let a = g.H.Host.faults c.args.host.now in
    let d = g.H.Host.faults c.end.new.host in
    let error = c.in_err-end-in-End.field-0.0 in
    passed_as c.from_residual-in_err-end-in-End.result error (λ (r : Result (Option Engine) ReplayError). ReplayCause a d r) c.from_residual-in_err-end-in-End.ensures.1 (cause_on a a d error (omega arith) (omega arith) c.in_err-end-in-End.ensures.cause)

pub returns-in_ok-end-in-End-clause-cause : goal.returns-in_ok-end-in-End-clause-cause
returns-in_ok-end-in-End-clause-cause g c = ok_lists (g.H.Host.faults c.args.host.now) (g.H.Host.faults c.end.new.host) _ c.end.ensures.cause.disk_later c.end.ensures.cause.tell_later

pub returns-in_err-hear-in-Step-clause-readable : goal.returns-in_err-hear-in-Step-clause-readable
returns-in_err-hear-in-Step-clause-readable g c t =
    passed_as c.from_residual.result c.in_err-hear-in-Step.field-0.0 (λ (r : Result (Option Engine) ReplayError). IfErr r (λ error. is_unreadable error ≡ false)) c.from_residual.ensures.1 (c.in_err-hear-in-Step.ensures.readable t)

pub returns-in_err-begin_life-in-Restart-clause-readable : goal.returns-in_err-begin_life-in-Restart-clause-readable
returns-in_err-begin_life-in-Restart-clause-readable g c t =
    passed_as c.from_residual-in_err-begin_life-in-Restart.result c.in_err-begin_life-in-Restart.field-0.0 (λ (r : Result (Option Engine) ReplayError). IfErr r (λ error. is_unreadable error ≡ false)) c.from_residual-in_err-begin_life-in-Restart.ensures.1 (c.in_err-begin_life-in-Restart.ensures.readable t)

pub returns-in_err-end-in-End-clause-readable : goal.returns-in_err-end-in-End-clause-readable
returns-in_err-end-in-End-clause-readable g c t =
    passed_as c.from_residual-in_err-end-in-End.result c.in_err-end-in-End.field-0.0 (λ (r : Result (Option Engine) ReplayError). IfErr r (λ error. is_unreadable error ≡ false)) c.from_residual-in_err-end-in-End.ensures.1 (c.in_err-end-in-End.ensures.readable t)

pub returns-in_err-hear-in-Step-clause-named : goal.returns-in_err-hear-in-Step-clause-named
returns-in_err-hear-in-Step-clause-named g c =
    passed_as c.from_residual.result c.in_err-hear-in-Step.field-0.0 (λ (r : Result (Option Engine) ReplayError). IfErr r IsNamed) c.from_residual.ensures.1 (heard_named c.args.line c.args.engine c.in-Step.event c.in_err-hear-in-Step.field-0.0 c.in_err-hear-in-Step.ensures.named)

pub returns-in_err-begin_life-in-Restart-clause-named : goal.returns-in_err-begin_life-in-Restart-clause-named
returns-in_err-begin_life-in-Restart-clause-named g c =
    passed_as c.from_residual-in_err-begin_life-in-Restart.result c.in_err-begin_life-in-Restart.field-0.0 (λ (r : Result (Option Engine) ReplayError). IfErr r IsNamed) c.from_residual-in_err-begin_life-in-Restart.ensures.1 (named_begins c.in_err-begin_life-in-Restart.field-0.0 c.in_err-begin_life-in-Restart.ensures.named)

pub returns-in_err-end-in-End-clause-named : goal.returns-in_err-end-in-End-clause-named
returns-in_err-end-in-End-clause-named g c =
    passed_as c.from_residual-in_err-end-in-End.result c.in_err-end-in-End.field-0.0 (λ (r : Result (Option Engine) ReplayError). IfErr r IsNamed) c.from_residual-in_err-end-in-End.ensures.1 (host_named c.in_err-end-in-End.field-0.0 c.in_err-end-in-End.ensures.named)

pub returns-in_err-hear-in-Step-clause-bad : goal.returns-in_err-hear-in-Step-clause-bad
returns-in_err-hear-in-Step-clause-bad g c =
    passed_as c.from_residual.result c.in_err-hear-in-Step.field-0.0 (λ (r : Result (Option Engine) ReplayError). IfErr r (BlamesItem c.args.item c.args.line)) c.from_residual.ensures.1 (step_blamed c.args.item c.in-Step.event c.in-Step.line c.args.line c.args.engine c.in_err-hear-in-Step.field-0.0 c.in-Step.is c.in_err-hear-in-Step.ensures.named)

pub returns-in_err-begin_life-in-Restart-clause-bad : goal.returns-in_err-begin_life-in-Restart-clause-bad
returns-in_err-begin_life-in-Restart-clause-bad g c =
    passed_as c.from_residual-in_err-begin_life-in-Restart.result c.in_err-begin_life-in-Restart.field-0.0 (λ (r : Result (Option Engine) ReplayError). IfErr r (BlamesItem c.args.item c.args.line)) c.from_residual-in_err-begin_life-in-Restart.ensures.1 (restart_blamed c.args.item c.args.line c.in_err-begin_life-in-Restart.field-0.0 c.in-Restart.is c.in_err-begin_life-in-Restart.ensures.named)

pub returns-in_err-end-in-End-clause-bad : goal.returns-in_err-end-in-End-clause-bad
returns-in_err-end-in-End-clause-bad g c =
    passed_as c.from_residual-in_err-end-in-End.result c.in_err-end-in-End.field-0.0 (λ (r : Result (Option Engine) ReplayError). IfErr r (BlamesItem c.args.item c.args.line)) c.from_residual-in_err-end-in-End.ensures.1 (end_blamed c.args.item c.args.line c.in_err-end-in-End.field-0.0 c.in_err-end-in-End.ensures.named)
