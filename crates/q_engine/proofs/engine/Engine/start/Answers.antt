use Rattle.std.proofs.Common.{◌∙◌, ap, refl, Some, List, ℕ}
use Rattle.q_books.proofs.Results.{on_ok}
use Rattle.q_core.specs.declared.decision.Decision.TheVariants as decisions
use Rattle.q_model.specs.declared.entry.Entry.TheVariants as entries
use Rattle.q_engine.proofs.CarriedOut.{carried, given_up, untouched}
use Rattle.q_engine.proofs.StartedEntries.{start_decided, TellsPositions}
use Rattle.q_engine.proofs.StoredNotes.{files_keep, plain_notes}
use Rattle.q_engine.proofs.Boxed.{lent_agrees}
use Rattle.q_engine.proofs.engine.Engine.start.Goals as goal

pub returns-in_err-positions-clause-err : goal.returns-in_err-positions-clause-err
returns-in_err-positions-clause-err g c error is t w l n =
    let v = g.H.Host.view c.args.host.now in
    untouched w l (decisions.Start c.args.number c.args.id c.args.site) n.0 c.args.self.now v n.1 error (record { only = g.met.H.Host.only_now c.args.host.now; told = g.met.H.Host.told_stays c.args.host.now })

pub returns-clause-ok : goal.returns-clause-ok
returns-clause-ok g c = on_ok c.tell.result (λ told t w l n.
    let d = decisions.Start c.args.number c.args.id c.args.site in
    let e = entries.Start c.args.number c.args.id c.args.site c.in_ok-positions.positions in
    let tells : TellsPositions c.args.self.now c.args.number c.in_ok-positions.positions = (λ u k a. ap (λ (p : List ℕ). Some p) c.in_ok-positions.ensures ∙ c.in-Some.ensures.ledger u k (lent_agrees u k _ _ c.deref.ensures a)) in
    let h = start_decided w l c.args.number c.args.id c.args.site c.args.self.now (g.H.Host.view c.args.host.now) c.in_ok-positions.positions tells n in
    carried w l d e c.args.self.now (g.H.Host.view c.args.host.now) h l.book (g.H.Host.view c.tell.new.host) (record { life = refl; arrive = refl; preempt = refl; stays = λ id. refl }) refl (told t l.book h.host) (plain_notes w l e (g.H.Host.view c.args.host.now) (g.H.Host.view c.tell.new.host) refl (files_keep (g.H.Host.view c.args.host.now) (g.H.Host.view c.tell.new.host) (c.tell.ensures.files t)))) c.tell.ensures.ok

pub returns-clause-err : goal.returns-clause-err
returns-clause-err g c error is t w l n =
    let d = decisions.Start c.args.number c.args.id c.args.site in
    let e = entries.Start c.args.number c.args.id c.args.site c.in_ok-positions.positions in
    let tells : TellsPositions c.args.self.now c.args.number c.in_ok-positions.positions = (λ u k a. ap (λ (p : List ℕ). Some p) c.in_ok-positions.ensures ∙ c.in-Some.ensures.ledger u k (lent_agrees u k _ _ c.deref.ensures a)) in
    let h = start_decided w l c.args.number c.args.id c.args.site c.args.self.now (g.H.Host.view c.args.host.now) c.in_ok-positions.positions tells n in
    given_up w l d e c.args.self.now (g.H.Host.view c.args.host.now) h l.book error (g.H.Host.view c.tell.new.host) refl (c.tell.ensures.err error is t l.book h.host)
