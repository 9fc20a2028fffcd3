use Rattle.std.proofs.Common.{◌∙◌, refl, subst}
use Rattle.q_books.proofs.Results.{on_ok}
use Rattle.q_core.specs.declared.decision.Decision.TheVariants as decisions
use Rattle.q_model.specs.Step.{after, change}
use Rattle.q_model.specs.declared.entry.Entry.TheVariants as entries
use Rattle.q_model.specs.declared.entry.Entry.{Entry}
use Rattle.q_laws.proofs.Living.{inner_now}
use Rattle.q_engine.specs.Stands.{HasDecided}
use Rattle.q_engine.proofs.Bounced.{bounce_changes, bounce_there}
use Rattle.q_engine.proofs.CarriedOut.{carried_behind, given_up_behind, refused}
use Rattle.q_engine.proofs.StoredNotes.{plain_told}
use Rattle.q_engine.proofs.Boxed.{lent_agrees}
use Rattle.q_engine.proofs.engine.Engine.bounce.Goals as goal

pub store_bounce-requires-clause-there : goal.store_bounce-requires-clause-there
store_bounce-requires-clause-there g c t =
    let (w, l, n) = c.requires t in
    let v = g.H.Host.view c.args.host.now in
    let h = subst (λ (x : Entry). HasDecided w l (decisions.Bounce c.args.id) x c.args.self.now v) n.1.of n.1 in
    bounce_there w l c.args.id c.args.self.now v h c.file_spot-spot.result c.file_spot-spot.ensures

pub returns-in_err-made-clause-err : goal.returns-in_err-made-clause-err
returns-in_err-made-clause-err g c error is t w l n =
    let d = decisions.Bounce c.args.id in
    let e = entries.Bounce c.args.id in
    let engine = c.args.self.now in
    let v = g.H.Host.view c.args.host.now in
    let h = subst (λ (x : Entry). HasDecided w l d x engine v) n.1.of n.1 in
    let k = (change w l e).book in
    let at = c.now.ensures.ledger w (after w l e) (lent_agrees w (after w l e) _ _ c.deref.ensures h.core) ∙ inner_now w l e refl in
    let adds = bounce_changes w l c.args.id engine v h c.file_spot-spot.result c.file_spot-spot.ensures c.now.result at in
    refused w l d e engine v h k error (g.H.Host.view c.store_bounce.new.host) refl (c.store_bounce.ensures.tries t l.book k h.host adds)

pub returns-clause-ok : goal.returns-clause-ok
returns-clause-ok g c = on_ok c.tell.result (λ told t w l n.
    let d = decisions.Bounce c.args.id in
    let e = entries.Bounce c.args.id in
    let engine = c.args.self.now in
    let v = g.H.Host.view c.args.host.now in
    let h = subst (λ (x : Entry). HasDecided w l d x engine v) n.1.of n.1 in
    let k = (change w l e).book in
    let at = c.now.ensures.ledger w (after w l e) (lent_agrees w (after w l e) _ _ c.deref.ensures h.core) ∙ inner_now w l e refl in
    let adds = bounce_changes w l c.args.id engine v h c.file_spot-spot.result c.file_spot-spot.ensures c.now.result at in
    let takes = c.in_ok-made.ensures.ok t l.book k h.host adds in
    carried_behind w l d e engine v h k (g.H.Host.view c.store_bounce.new.host) (g.H.Host.view c.tell.new.host) (record { life = refl; arrive = refl; preempt = refl; stays = λ id. refl }) refl takes (told t k takes.stands) (plain_told w l e v (g.H.Host.view c.store_bounce.new.host) (g.H.Host.view c.tell.new.host) refl (c.in_ok-made.ensures.notes t) (c.tell.ensures.files t))) c.tell.ensures.ok

pub returns-clause-err : goal.returns-clause-err
returns-clause-err g c error is t w l n =
    let d = decisions.Bounce c.args.id in
    let e = entries.Bounce c.args.id in
    let engine = c.args.self.now in
    let v = g.H.Host.view c.args.host.now in
    let h = subst (λ (x : Entry). HasDecided w l d x engine v) n.1.of n.1 in
    let k = (change w l e).book in
    let at = c.now.ensures.ledger w (after w l e) (lent_agrees w (after w l e) _ _ c.deref.ensures h.core) ∙ inner_now w l e refl in
    let adds = bounce_changes w l c.args.id engine v h c.file_spot-spot.result c.file_spot-spot.ensures c.now.result at in
    let takes = c.in_ok-made.ensures.ok t l.book k h.host adds in
    given_up_behind w l d e engine v h k error (g.H.Host.view c.store_bounce.new.host) (g.H.Host.view c.tell.new.host) refl takes (c.tell.ensures.err error is t k takes.stands)

pub returns-then-not-made-clause-ok : goal.returns-then-not-made-clause-ok
returns-then-not-made-clause-ok g c t w l n =
    let d = decisions.Bounce c.args.id in
    let e = entries.Bounce c.args.id in
    let engine = c.args.self.now in
    let v = g.H.Host.view c.args.host.now in
    let h = subst (λ (x : Entry). HasDecided w l d x engine v) n.1.of n.1 in
    let k = (change w l e).book in
    let at = c.now.ensures.ledger w (after w l e) (lent_agrees w (after w l e) _ _ c.deref.ensures h.core) ∙ inner_now w l e refl in
    let adds = bounce_changes w l c.args.id engine v h c.file_spot-spot.result c.file_spot-spot.ensures c.now.result at in
    absurd (c.in_ok-made.ensures.made c.if-not-made.true t l.book k h.host adds)
