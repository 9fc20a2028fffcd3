use Rattle.std.proofs.Common.{ap, refl}
use Rattle.q_books.proofs.Joining.{kept_takes, kept_tries}
use Rattle.q_books.proofs.Results.{on_ok}
use Rattle.q_core.specs.declared.decision.Decision.TheVariants as decisions
use Rattle.q_model.specs.SpoolFiles.{area_of}
use Rattle.q_model.specs.Step.{change}
use Rattle.q_model.specs.Values.{Spot}
use Rattle.q_model.specs.declared.entry.Entry.TheVariants as entries
use Rattle.q_model.specs.declared.rows.Place.TheVariants as places
use Rattle.q_model.specs.declared.spot.Area.TheVariants as areas
use Rattle.q_engine.proofs.CarriedOut.{carried_behind, given_up_behind, refused}
use Rattle.q_engine.proofs.Moves.{admit_moves, apart, dropped_only, moved_there, not_active, picked_place}
use Rattle.q_engine.proofs.StoredNotes.{admit_notes, files_keep, keeps_then, no_log_spot, placed_form, placed_found}
use Rattle.q_engine.proofs.engine.Engine.admit.Goals as goal

pub returns-in_err-drop_notes-clause-err : goal.returns-in_err-drop_notes-clause-err
returns-in_err-drop_notes-clause-err g c error is t w l n =
    let v = g.H.Host.view c.args.host.now in
    dropped_only w l (decisions.Admit c.args.id c.args.place) n.0 c.args.self.now v (g.H.Host.view c.drop_notes.new.host) error n.1 (c.in_err-drop_notes.ensures.book t l.book n.1.host)

pub move_to-requires-clause-there : goal.move_to-requires-clause-there
move_to-requires-clause-there g c t =
    let (w, l, n) = c.requires.decided t in
    let m = admit_moves w l c.args.id c.args.self.now (g.H.Host.view c.args.host.now) c.file_spot.result c.file_spot-2.result c.args.place n c.file_spot.ensures c.file_spot-2.ensures in
    let k = (change w l (entries.Admit c.args.id)).book in
    let kept = c.in_ok-drop_notes.ensures.book t l.book m.decided.host in
    moved_there (g.H.Host.view c.drop_notes.new.host) l.book k c.file_spot.result c.file_spot-2.result kept.stands m.moves

pub move_to-requires-clause-differ : goal.move_to-requires-clause-differ
move_to-requires-clause-differ g c t =
    apart c.file_spot.result c.file_spot-2.result (area_of c.args.place) areas.Active (ap (λ (s : Spot). s.area) c.file_spot.ensures) (ap (λ (s : Spot). s.area) c.file_spot-2.ensures) (not_active c.args.place c.requires.place)

pub returns-in_err-move_to-clause-err : goal.returns-in_err-move_to-clause-err
returns-in_err-move_to-clause-err g c error is t w l n =
    let v = g.H.Host.view c.args.host.now in
    let u = g.H.Host.view c.drop_notes.new.host in
    let m = admit_moves w l c.args.id c.args.self.now (g.H.Host.view c.args.host.now) c.file_spot.result c.file_spot-2.result c.args.place n c.file_spot.ensures c.file_spot-2.ensures in
    let k = (change w l (entries.Admit c.args.id)).book in
    let kept = c.in_ok-drop_notes.ensures.book t l.book m.decided.host in
    let x = g.H.Host.view c.move_to.new.host in
    refused w l (decisions.Admit c.args.id c.args.place) (entries.Admit c.args.id) c.args.self.now v m.decided k error x refl (kept_tries l.book k v u x kept (c.in_err-move_to.ensures.err t l.book k kept.stands m.moves))

pub returns-clause-ok : goal.returns-clause-ok
returns-clause-ok g c = on_ok c.tell.result (λ told t w l n.
    let v = g.H.Host.view c.args.host.now in
    let u = g.H.Host.view c.drop_notes.new.host in
    let m = admit_moves w l c.args.id c.args.self.now (g.H.Host.view c.args.host.now) c.file_spot.result c.file_spot-2.result c.args.place n c.file_spot.ensures c.file_spot-2.ensures in
    let k = (change w l (entries.Admit c.args.id)).book in
    let kept = c.in_ok-drop_notes.ensures.book t l.book m.decided.host in
    let x = g.H.Host.view c.move_to.new.host in
    let takes = kept_takes l.book k v u x kept (c.in_ok-move_to.ensures.ok t l.book k kept.stands m.moves) in
    carried_behind w l (decisions.Admit c.args.id c.args.place) (entries.Admit c.args.id) c.args.self.now v m.decided k x (g.H.Host.view c.tell.new.host) (record { life = refl; arrive = refl; preempt = refl; stays = λ id. refl }) refl takes (told t k takes.stands) (admit_notes w l c.args.id v u (g.H.Host.view c.tell.new.host) (placed_form v l.book c.args.id c.args.place n.1.host n.1.placed) (c.in_ok-drop_notes.ensures.notes t)
    (keeps_then u x (g.H.Host.view c.tell.new.host) (c.in_ok-move_to.ensures.notes t (no_log_spot c.file_spot.result c.args.place c.args.id c.file_spot.ensures) (no_log_spot c.file_spot-2.result places.Active c.args.id c.file_spot-2.ensures)) (files_keep x (g.H.Host.view c.tell.new.host) (c.tell.ensures.files t))) (placed_found l.book c.args.id c.args.place n.1.placed) (c.in_ok-drop_notes.ensures.gone t))) c.tell.ensures.ok

pub returns-clause-err : goal.returns-clause-err
returns-clause-err g c error is t w l n =
    let v = g.H.Host.view c.args.host.now in
    let u = g.H.Host.view c.drop_notes.new.host in
    let m = admit_moves w l c.args.id c.args.self.now (g.H.Host.view c.args.host.now) c.file_spot.result c.file_spot-2.result c.args.place n c.file_spot.ensures c.file_spot-2.ensures in
    let k = (change w l (entries.Admit c.args.id)).book in
    let kept = c.in_ok-drop_notes.ensures.book t l.book m.decided.host in
    let x = g.H.Host.view c.move_to.new.host in
    let takes = kept_takes l.book k v u x kept (c.in_ok-move_to.ensures.ok t l.book k kept.stands m.moves) in
    given_up_behind w l (decisions.Admit c.args.id c.args.place) (entries.Admit c.args.id) c.args.self.now v m.decided k error x (g.H.Host.view c.tell.new.host) refl takes (c.tell.ensures.err error is t k takes.stands)

pub file_spot-requires : goal.file_spot-requires
file_spot-requires g c = picked_place c.args.place c.requires.place
