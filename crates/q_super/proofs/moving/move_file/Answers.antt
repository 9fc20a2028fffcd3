use Rattle.std.proofs.Common.{◌≡◌, ◌∙◌, false, subst, sym}
use Rattle.q_books.proofs.Results.{on_err, on_ok}
use Rattle.q_books.specs.HostStands.{TellsCrashes}
use Rattle.q_books.specs.Spots.{spot_of}
use Rattle.q_files.proofs.FileMoves.{MayRenamed, Renamed}
use Rattle.q_host.specs.Files.{same_place}
use Rattle.q_model.specs.SpoolFiles.{name_at}
use Rattle.q_model.specs.Values.{Spot}
use Rattle.q_super.proofs.FileMoves.{may_move_by_rename, moves_by_rename, places_apart}
use Rattle.q_super.proofs.moving.move_file.Goals as goal

pub rename-requires-clause-differ : goal.rename-requires-clause-differ
rename-requires-clause-differ g c t =
    let from = c.args.from in
    let here = c.here.view_is ∙ c.file_spot-here.ensures in
    let there = c.there.view_is ∙ c.file_spot-there.ensures in
    subst (λ (s : Spot). same_place s.area s.name c.there.inside.area c.there.inside.name ≡ false) (sym here)
    (subst (λ (s : Spot). same_place (spot_of from.place from.id).area (spot_of from.place from.id).name s.area s.name ≡ false) (sym there)
    (places_apart from.place c.args.to (name_at from.place from.id) (name_at c.args.to from.id) c.requires.allowed.allowed))

pub returns-clause-ok : goal.returns-clause-ok
returns-clause-ok g c = on_ok c.rename.result (λ d t b k h ch.
    let v = g.H.Host.view c.args.host.now in
    let w = g.H.Host.view c.rename.new.self in
    let lawful : TellsCrashes v = (record { only = g.met.H.Host.only_now c.args.host.now; told = g.met.H.Host.told_stays c.args.host.now }) in
    let one = subst (λ (s : Spot). Renamed s (record { area = c.there.inside.area; name = c.there.inside.name }) v w) (c.here.view_is ∙ c.file_spot-here.ensures) (d t) in
    moves_by_rename c.args.from c.args.to c.requires.allowed b k v w lawful ch h (subst (λ (s : Spot). Renamed (spot_of c.args.from.place c.args.from.id) s v w) (c.there.view_is ∙ c.file_spot-there.ensures) one)) c.rename.ensures.ok

pub returns-clause-err : goal.returns-clause-err
returns-clause-err g c = on_err c.rename.result (λ d t b k h ch.
    let v = g.H.Host.view c.args.host.now in
    let w = g.H.Host.view c.rename.new.self in
    let lawful : TellsCrashes v = (record { only = g.met.H.Host.only_now c.args.host.now; told = g.met.H.Host.told_stays c.args.host.now }) in
    let one = subst (λ (s : Spot). MayRenamed s (record { area = c.there.inside.area; name = c.there.inside.name }) v w) (c.here.view_is ∙ c.file_spot-here.ensures) (d t) in
    may_move_by_rename c.args.from c.args.to c.requires.allowed b k v w lawful ch h (subst (λ (s : Spot). MayRenamed (spot_of c.args.from.place c.args.from.id) s v w) (c.there.view_is ∙ c.file_spot-there.ensures) one)) c.rename.ensures.err
