use Rattle.std.proofs.Common.{refl, subst}
use Rattle.q_core.specs.declared.decision.Decision.TheVariants as decisions
use Rattle.q_model.specs.declared.entry.Entry.TheVariants as entries
use Rattle.q_model.specs.declared.entry.Entry.{Entry}
use Rattle.q_engine.specs.Stands.{HasDecided}
use Rattle.q_engine.proofs.CarriedOut.{carried_preempt, given_up}
use Rattle.q_engine.proofs.DecisionLoops.{same_error}
use Rattle.q_engine.proofs.StoredNotes.{files_keep, plain_notes}
use Rattle.q_engine.proofs.engine.Engine.preempt.Goals as goal

pub returns-in_err-tell-clause-err : goal.returns-in_err-tell-clause-err
returns-in_err-tell-clause-err g c error is t w l n =
    let d = decisions.Preempt c.args.child c.args.parent c.args.transport c.args.need in
    let e = entries.Preempt c.args.child c.args.parent c.args.transport c.args.need in
    let v = g.H.Host.view c.args.host.now in
    let h = subst (λ (x : Entry). HasDecided w l d x c.args.self.now v) n.1.of n.1 in
    given_up w l d e c.args.self.now v h l.book error (g.H.Host.view c.tell.new.host) refl
    (c.in_err-tell.ensures.err error (same_error c.from_residual.result c.in_err-tell.field-0.0 error c.from_residual.ensures.1 is) t l.book h.host)

pub returns-clause-ok : goal.returns-clause-ok
returns-clause-ok g c t w l n =
    let d = decisions.Preempt c.args.child c.args.parent c.args.transport c.args.need in
    let e = entries.Preempt c.args.child c.args.parent c.args.transport c.args.need in
    let v = g.H.Host.view c.args.host.now in
    let h = subst (λ (x : Entry). HasDecided w l d x c.args.self.now v) n.1.of n.1 in
    carried_preempt w l d e c.args.self.now v h c.saturating_add-self.result (g.H.Host.view c.tell.new.host) refl refl refl (λ id. refl) refl c.saturating_add-self.ensures
    (c.in_ok-tell.ensures.ok t l.book h.host) (plain_notes w l e v (g.H.Host.view c.tell.new.host) refl (files_keep v (g.H.Host.view c.tell.new.host) (c.in_ok-tell.ensures.files t)))
