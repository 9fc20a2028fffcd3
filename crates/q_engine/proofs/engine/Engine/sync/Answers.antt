use Rattle.std.proofs.Common.{◌∙◌, ap, refl, subst, Some}
use Rattle.q_books.proofs.Results.{on_ok}
use Rattle.q_core.specs.declared.decision.Decision.TheVariants as decisions
use Rattle.q_model.specs.Step.{change}
use Rattle.q_model.specs.declared.entry.Entry.TheVariants as entries
use Rattle.q_model.specs.declared.entry.Entry.{Entry}
use Rattle.q_engine.specs.Stands.{HasDecided}
use Rattle.q_engine.proofs.CarriedOut.{carried_behind, given_up_behind, refused}
use Rattle.q_engine.proofs.Speaking.{file_there, in_active, sync_speaks}
use Rattle.q_engine.proofs.StoredNotes.{plain_told}
use Rattle.q_engine.proofs.engine.Engine.sync.Goals as goal

pub sync_marks-requires : goal.sync_marks-requires
sync_marks-requires g c t =
    let (w, l, n) = c.requires t in
    let a = sync_speaks w l c.args.id n.1.was.consistent (n.1.following ∙ ap (λ (x : Entry). Some x) n.1.of) in
    file_there (g.H.Host.view c.args.host.now) l.book c.args.id a.0 c.file_spot.result n.1.host (in_active l c.args.id a.0 a.1 c.file_spot.result c.file_spot.ensures)

pub returns-in_err-sync_marks-clause-err : goal.returns-in_err-sync_marks-clause-err
returns-in_err-sync_marks-clause-err g c error is t w l n =
    let d = decisions.Sync c.args.id in
    let e = entries.Sync c.args.id in
    let v = g.H.Host.view c.args.host.now in
    let h = subst (λ (x : Entry). HasDecided w l d x c.args.self.now v) n.1.of n.1 in
    let a = sync_speaks w l c.args.id h.was.consistent h.following in
    let k = (change w l e).book in
    refused w l d e c.args.self.now v h k error (g.H.Host.view c.sync_marks.new.host) refl
    (c.in_err-sync_marks.ensures.err t l.book k h.host (record { id = c.args.id; message = a.0; file = in_active l c.args.id a.0 a.1 c.file_spot.result c.file_spot.ensures; changed = refl }))

pub returns-clause-ok : goal.returns-clause-ok
returns-clause-ok g c = on_ok c.tell.result (λ told t w l n.
    let d = decisions.Sync c.args.id in
    let e = entries.Sync c.args.id in
    let v = g.H.Host.view c.args.host.now in
    let h = subst (λ (x : Entry). HasDecided w l d x c.args.self.now v) n.1.of n.1 in
    let a = sync_speaks w l c.args.id h.was.consistent h.following in
    let k = (change w l e).book in
    let takes = c.in_ok-sync_marks.ensures.ok t l.book k h.host (record { id = c.args.id; message = a.0; file = in_active l c.args.id a.0 a.1 c.file_spot.result c.file_spot.ensures; changed = refl }) in
    carried_behind w l d e c.args.self.now v h k (g.H.Host.view c.sync_marks.new.host) (g.H.Host.view c.tell.new.host) (record { life = refl; arrive = refl; preempt = refl; stays = λ id. refl }) refl takes (told t k takes.stands) (plain_told w l e v (g.H.Host.view c.sync_marks.new.host) (g.H.Host.view c.tell.new.host) refl (c.in_ok-sync_marks.ensures.notes t) (c.tell.ensures.files t))) c.tell.ensures.ok

pub returns-clause-err : goal.returns-clause-err
returns-clause-err g c error is t w l n =
    let d = decisions.Sync c.args.id in
    let e = entries.Sync c.args.id in
    let v = g.H.Host.view c.args.host.now in
    let h = subst (λ (x : Entry). HasDecided w l d x c.args.self.now v) n.1.of n.1 in
    let a = sync_speaks w l c.args.id h.was.consistent h.following in
    let k = (change w l e).book in
    let takes = c.in_ok-sync_marks.ensures.ok t l.book k h.host (record { id = c.args.id; message = a.0; file = in_active l c.args.id a.0 a.1 c.file_spot.result c.file_spot.ensures; changed = refl }) in
    given_up_behind w l d e c.args.self.now v h k error (g.H.Host.view c.sync_marks.new.host) (g.H.Host.view c.tell.new.host) refl takes (c.tell.ensures.err error is t k takes.stands)
