use Rattle.std.proofs.Common.{◌∙◌, Some, ap, subst, sym}
use Rattle.q_books.proofs.Results.{on_ok}
use Rattle.q_files.proofs.Outcomes.{always_ok}
use Rattle.q_core.specs.declared.decision.Decision.{Decision}
use Rattle.q_engine.specs.TakenOver.{IsTakenOver}
use Rattle.q_engine.specs.Stands.{IsNextEntry}
use Rattle.q_engine.specs.declared.engine.Engine.{Engine}
use Rattle.q_engine.proofs.CarriedOut.{next_fewer}
use Rattle.q_engine.proofs.DecisionMarks.{mark_answered, marks}
use Rattle.q_engine.proofs.Stopping.{host_readable, host_stopped, same_host}
use Rattle.q_engine.proofs.engine.Engine.carry_out.Goals as goal

pub dispatch-requires-clause-decided : goal.dispatch-requires-clause-decided
dispatch-requires-clause-decided g c t =
    let (w, l, n) = c.requires.decided t in
    let v = g.H.Host.view c.args.host.now in
    (w, l, subst (λ (e : Engine). IsNextEntry w l (Some c.args.decision.now) e v) (sym c.forget_left.ensures.rest) (next_fewer w l c.args.decision.now c.args.self.now v c.forget_left.new.self.places c.forget_left.ensures.fewer n))

pub dispatch-requires-clause-no_mark : goal.dispatch-requires-clause-no_mark
dispatch-requires-clause-no_mark g c = sym c.mark_of.ensures ∙ c.in_default.is

pub returns-in_default-clause-ok : goal.returns-in_default-clause-ok
returns-in_default-clause-ok g c t w l n =
    let v = g.H.Host.view c.args.host.now in
    c.in_ok-dispatch.ensures.ok t w l (subst (λ (e : Engine). IsNextEntry w l (Some c.args.decision.now) e v) (sym c.forget_left.ensures.rest) (next_fewer w l c.args.decision.now c.args.self.now v c.forget_left.new.self.places c.forget_left.ensures.fewer n))

pub returns-in_err-dispatch-clause-err : goal.returns-in_err-dispatch-clause-err
returns-in_err-dispatch-clause-err g c error is t w l n =
    let v = g.H.Host.view c.args.host.now in
    c.in_err-dispatch.ensures.err error (same_host c.from_residual.result c.in_err-dispatch.field-0.0 error c.from_residual.ensures.1 is) t w l (subst (λ (e : Engine). IsNextEntry w l (Some c.args.decision.now) e v) (sym c.forget_left.ensures.rest) (next_fewer w l c.args.decision.now c.args.self.now v c.forget_left.new.self.places c.forget_left.ensures.fewer n))

pub returns-in_err-dispatch-clause-readable : goal.returns-in_err-dispatch-clause-readable
returns-in_err-dispatch-clause-readable g c = host_readable g.H.Host.tells c.from_residual.result c.in_err-dispatch.field-0.0 c.from_residual.ensures.1

pub returns-in_err-dispatch-clause-cause : goal.returns-in_err-dispatch-clause-cause
returns-in_err-dispatch-clause-cause g c = host_stopped (g.H.Host.faults c.args.host.now) (g.H.Host.faults c.dispatch.new.host) c.from_residual.result c.in_err-dispatch.field-0.0 c.from_residual.ensures.1 c.in_err-dispatch.ensures.cause

pub mark-requires : goal.mark-requires
mark-requires g c t =
    let (w, l, n) = c.requires.decided t in
    let v = g.H.Host.view c.args.host.now in
    let d = c.args.decision.now in
    let m = c.in-Some.mark in
    let fewer = subst (λ (e : Engine). IsNextEntry w l (Some d) e v) (sym c.forget_left.ensures.rest) (next_fewer w l d c.args.self.now v c.forget_left.new.self.places c.forget_left.ensures.fewer n) in
    (w, l, subst (λ (x : Decision). IsNextEntry w l (Some x) c.forget_left.new.self v) (marks d m (sym c.mark_of.ensures ∙ c.in-Some.is)) fewer)

pub returns-clause-ok : goal.returns-clause-ok
returns-clause-ok g c = on_ok c.mark.result (λ told t w l n.
    let v = g.H.Host.view c.args.host.now in
    let d = c.args.decision.now in
    let m = c.in-Some.mark in
    let fewer = subst (λ (e : Engine). IsNextEntry w l (Some d) e v) (sym c.forget_left.ensures.rest) (next_fewer w l d c.args.self.now v c.forget_left.new.self.places c.forget_left.ensures.fewer n) in
    told t w l (subst (λ (x : Decision). IsNextEntry w l (Some x) c.forget_left.new.self v) (marks d m (sym c.mark_of.ensures ∙ c.in-Some.is)) fewer)) c.mark.ensures.ok

pub returns-clause-err : goal.returns-clause-err
returns-clause-err g c error is t w l n =
    let v = g.H.Host.view c.args.host.now in
    let d = c.args.decision.now in
    let m = c.in-Some.mark in
    let fewer = subst (λ (e : Engine). IsNextEntry w l (Some d) e v) (sym c.forget_left.ensures.rest) (next_fewer w l d c.args.self.now v c.forget_left.new.self.places c.forget_left.ensures.fewer n) in
    c.mark.ensures.err error is t w l (subst (λ (x : Decision). IsNextEntry w l (Some x) c.forget_left.new.self v) (marks d m (sym c.mark_of.ensures ∙ c.in-Some.is)) fewer)

pub returns-clause-answered : goal.returns-clause-answered
returns-clause-answered g c = on_ok c.mark.result (λ told.
    let d = c.args.decision.now in
    let same = c.mark.ensures.core ∙ ap (λ (e : Engine). e.core) c.forget_left.ensures.rest in
    mark_answered d c.in-Some.mark c.mark.new.self.core.value.question (sym c.mark_of.ensures ∙ c.in-Some.is) (ap (λ core. core.value.question) same ∙ c.requires.taken.question)) c.mark.ensures.ok

pub dispatch-requires-clause-taken : goal.dispatch-requires-clause-taken
dispatch-requires-clause-taken g c = subst (λ (e : Engine). IsTakenOver c.args.decision.now e.core.value) (sym c.forget_left.ensures.rest) c.requires.taken

pub returns-in_default-clause-timed : goal.returns-in_default-clause-timed
returns-in_default-clause-timed g c = c.in_ok-dispatch.ensures.timed ∙ ap (λ (e : Engine). e.core.value.timed) c.forget_left.ensures.rest

pub returns-clause-timed : goal.returns-clause-timed
returns-clause-timed g c = always_ok c.mark.result (ap (λ core. core.value.timed) (c.mark.ensures.core ∙ ap (λ (e : Engine). e.core) c.forget_left.ensures.rest))
