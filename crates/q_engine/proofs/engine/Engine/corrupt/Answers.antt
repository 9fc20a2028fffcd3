use Rattle.std.proofs.Common.{ap, refl}
use Rattle.q_books.proofs.Results.{on_ok}
use Rattle.q_core.specs.declared.decision.Decision.TheVariants as decisions
use Rattle.q_model.specs.SpoolFiles.{area_of}
use Rattle.q_model.specs.Step.{change}
use Rattle.q_model.specs.Values.{Spot}
use Rattle.q_model.specs.declared.entry.Entry.TheVariants as entries
use Rattle.q_model.specs.declared.rows.Place.TheVariants as places
use Rattle.q_model.specs.declared.spot.Area.TheVariants as areas
use Rattle.q_engine.proofs.CarriedOut.{carried_behind, given_up_behind, refused}
use Rattle.q_engine.proofs.Moves.{apart, aside_there, corrupt_moves, damaged_place, not_corrupt}
use Rattle.q_engine.proofs.StoredNotes.{no_log_spot, plain_told}
use Rattle.q_engine.proofs.engine.Engine.corrupt.Goals as goal

pub move_to-requires-clause-there : goal.move_to-requires-clause-there
move_to-requires-clause-there g c t =
    let (w, l, n) = c.requires.decided t in
    let m = corrupt_moves w l c.args.id c.args.self.now (g.H.Host.view c.args.host.now) c.file_spot.result c.file_spot-2.result c.args.place n c.file_spot.ensures c.file_spot-2.ensures in
    let k = (change w l (entries.Corrupt c.args.id)).book in
    aside_there (g.H.Host.view c.args.host.now) l.book k c.file_spot.result c.file_spot-2.result m.decided.host m.puts

pub move_to-requires-clause-differ : goal.move_to-requires-clause-differ
move_to-requires-clause-differ g c t =
    apart c.file_spot.result c.file_spot-2.result (area_of c.args.place) areas.Corrupt (ap (λ (s : Spot). s.area) c.file_spot.ensures) (ap (λ (s : Spot). s.area) c.file_spot-2.ensures) (not_corrupt c.args.place c.requires.place)

pub returns-in_err-move_to-clause-err : goal.returns-in_err-move_to-clause-err
returns-in_err-move_to-clause-err g c error is t w l n =
    let m = corrupt_moves w l c.args.id c.args.self.now (g.H.Host.view c.args.host.now) c.file_spot.result c.file_spot-2.result c.args.place n c.file_spot.ensures c.file_spot-2.ensures in
    let k = (change w l (entries.Corrupt c.args.id)).book in
    refused w l (decisions.Corrupt c.args.id c.args.place) (entries.Corrupt c.args.id) c.args.self.now (g.H.Host.view c.args.host.now) m.decided k error (g.H.Host.view c.move_to.new.host) refl (c.in_err-move_to.ensures.aside_err t l.book k m.decided.host m.puts)

pub returns-clause-ok : goal.returns-clause-ok
returns-clause-ok g c = on_ok c.tell.result (λ told t w l n.
    let m = corrupt_moves w l c.args.id c.args.self.now (g.H.Host.view c.args.host.now) c.file_spot.result c.file_spot-2.result c.args.place n c.file_spot.ensures c.file_spot-2.ensures in
    let k = (change w l (entries.Corrupt c.args.id)).book in
    let takes = c.in_ok-move_to.ensures.aside t l.book k m.decided.host m.puts in
    carried_behind w l (decisions.Corrupt c.args.id c.args.place) (entries.Corrupt c.args.id) c.args.self.now (g.H.Host.view c.args.host.now) m.decided k (g.H.Host.view c.move_to.new.host) (g.H.Host.view c.tell.new.host) (record { life = refl; arrive = refl; preempt = refl; stays = λ id. refl }) refl takes (told t k takes.stands) (plain_told w l (entries.Corrupt c.args.id) (g.H.Host.view c.args.host.now) (g.H.Host.view c.move_to.new.host) (g.H.Host.view c.tell.new.host) refl (c.in_ok-move_to.ensures.notes t (no_log_spot c.file_spot.result c.args.place c.args.id c.file_spot.ensures) (no_log_spot c.file_spot-2.result places.Corrupt c.args.id c.file_spot-2.ensures)) (c.tell.ensures.files t))) c.tell.ensures.ok

pub returns-clause-err : goal.returns-clause-err
returns-clause-err g c error is t w l n =
    let m = corrupt_moves w l c.args.id c.args.self.now (g.H.Host.view c.args.host.now) c.file_spot.result c.file_spot-2.result c.args.place n c.file_spot.ensures c.file_spot-2.ensures in
    let k = (change w l (entries.Corrupt c.args.id)).book in
    let takes = c.in_ok-move_to.ensures.aside t l.book k m.decided.host m.puts in
    given_up_behind w l (decisions.Corrupt c.args.id c.args.place) (entries.Corrupt c.args.id) c.args.self.now (g.H.Host.view c.args.host.now) m.decided k error (g.H.Host.view c.move_to.new.host) (g.H.Host.view c.tell.new.host) refl takes (c.tell.ensures.err error is t k takes.stands)

pub file_spot-requires : goal.file_spot-requires
file_spot-requires g c = damaged_place c.args.place c.requires.place
