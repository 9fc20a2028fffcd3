use Rattle.std.proofs.Common.{refl, subst}
use Rattle.q_books.proofs.Results.{on_ok}
use Rattle.q_core.specs.declared.decision.Decision.TheVariants as decisions
use Rattle.q_model.specs.Step.{change}
use Rattle.q_model.specs.declared.entry.Entry.TheVariants as entries
use Rattle.q_model.specs.declared.entry.Entry.{Entry}
use Rattle.q_engine.specs.Stands.{HasDecided}
use Rattle.q_engine.proofs.CarriedOut.{carried_behind, given_up_behind, refused_loosely}
use Rattle.q_engine.proofs.Causes.{never_told}
use Rattle.q_engine.proofs.OutcomeArms.{log_changes}
use Rattle.q_engine.proofs.StoredNotes.{plain_told}
use Rattle.q_engine.proofs.engine.Engine.log.Goals as goal

pub returns-in_err-store_failure-clause-err : goal.returns-in_err-store_failure-clause-err
returns-in_err-store_failure-clause-err g c error is t w l n =
    let d = decisions.Log c.args.id c.args.failure in
    let e = entries.Log c.args.id c.args.failure in
    let v = g.H.Host.view c.args.host.now in
    let h = subst (λ (x : Entry). HasDecided w l d x c.args.self.now v) n.1.of n.1 in
    let k = (change w l e).book in
    let other = never_told (g.H.Host.faults c.args.host.now) (g.H.Host.faults c.store_failure.new.host) c.from_residual.result c.in_err-store_failure.field-0.0 error c.from_residual.ensures.1 is c.in_err-store_failure.ensures.cause in
    refused_loosely w l d e c.args.self.now v h k error (g.H.Host.view c.store_failure.new.host) other refl
    (c.in_err-store_failure.ensures.err t l.book k h.host (log_changes w l c.args.id c.args.failure c.args.self.now v h))

pub returns-clause-ok : goal.returns-clause-ok
returns-clause-ok g c = on_ok c.tell.result (λ told t w l n.
    let d = decisions.Log c.args.id c.args.failure in
    let e = entries.Log c.args.id c.args.failure in
    let v = g.H.Host.view c.args.host.now in
    let h = subst (λ (x : Entry). HasDecided w l d x c.args.self.now v) n.1.of n.1 in
    let k = (change w l e).book in
    let takes = c.in_ok-store_failure.ensures.ok t l.book k h.host (log_changes w l c.args.id c.args.failure c.args.self.now v h) in
    carried_behind w l d e c.args.self.now v h k (g.H.Host.view c.store_failure.new.host) (g.H.Host.view c.tell.new.host) (record { life = refl; arrive = refl; preempt = refl; stays = λ id. refl }) refl takes (told t k takes.stands) (plain_told w l e v (g.H.Host.view c.store_failure.new.host) (g.H.Host.view c.tell.new.host) refl (c.in_ok-store_failure.ensures.notes t) (c.tell.ensures.files t))) c.tell.ensures.ok

pub returns-clause-err : goal.returns-clause-err
returns-clause-err g c error is t w l n =
    let d = decisions.Log c.args.id c.args.failure in
    let e = entries.Log c.args.id c.args.failure in
    let v = g.H.Host.view c.args.host.now in
    let h = subst (λ (x : Entry). HasDecided w l d x c.args.self.now v) n.1.of n.1 in
    let k = (change w l e).book in
    let takes = c.in_ok-store_failure.ensures.ok t l.book k h.host (log_changes w l c.args.id c.args.failure c.args.self.now v h) in
    given_up_behind w l d e c.args.self.now v h k error (g.H.Host.view c.store_failure.new.host) (g.H.Host.view c.tell.new.host) refl takes (c.tell.ensures.err error is t k takes.stands)
