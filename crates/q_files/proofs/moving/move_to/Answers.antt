use Rattle.std.proofs.Common.{inl, subst}
use Rattle.q_model.specs.Values.{Spot}
use Rattle.q_books.specs.HostStands.{TellsCrashes}
use Rattle.q_books.proofs.Results.{on_err, on_ok}
use Rattle.q_files.proofs.FileMoves.{MayRenamed, may_move_file, may_put_aside, moves_file, puts_aside, Renamed, renames_no_notes}
use Rattle.q_files.proofs.Outcomes.{either}
use Rattle.q_files.proofs.moving.move_to.Goals as goal

pub returns-clause-ok : goal.returns-clause-ok
returns-clause-ok g c = on_ok c.rename.result (λ d t b k h ch.
    let v = g.H.Host.view c.args.host.now in
    let w = g.H.Host.view c.rename.new.self in
    let lawful : TellsCrashes v = (record { only = g.met.H.Host.only_now c.args.host.now; told = g.met.H.Host.told_stays c.args.host.now }) in
    let one = subst (λ (s : Spot). Renamed s (record { area = c.to.inside.area; name = c.to.inside.name }) v w) c.from.view_is (d t) in
    moves_file c.args.from c.args.to b k v w lawful ch (subst (λ (s : Spot). Renamed c.args.from s v w) c.to.view_is one) h) c.rename.ensures.ok

pub returns-clause-err : goal.returns-clause-err
returns-clause-err g c = on_err c.rename.result (λ d t b k h ch.
    let v = g.H.Host.view c.args.host.now in
    let w = g.H.Host.view c.rename.new.self in
    let lawful : TellsCrashes v = (record { only = g.met.H.Host.only_now c.args.host.now; told = g.met.H.Host.told_stays c.args.host.now }) in
    let one = subst (λ (s : Spot). MayRenamed s (record { area = c.to.inside.area; name = c.to.inside.name }) v w) c.from.view_is (d t) in
    may_move_file c.args.from c.args.to b k v w lawful ch (subst (λ (s : Spot). MayRenamed c.args.from s v w) c.to.view_is one) h) c.rename.ensures.err

pub returns-clause-aside : goal.returns-clause-aside
returns-clause-aside g c = on_ok c.rename.result (λ d t b k h ch.
    let v = g.H.Host.view c.args.host.now in
    let w = g.H.Host.view c.rename.new.self in
    let lawful : TellsCrashes v = (record { only = g.met.H.Host.only_now c.args.host.now; told = g.met.H.Host.told_stays c.args.host.now }) in
    let one = subst (λ (s : Spot). Renamed s (record { area = c.to.inside.area; name = c.to.inside.name }) v w) c.from.view_is (d t) in
    puts_aside c.args.from c.args.to b k v w lawful ch (subst (λ (s : Spot). Renamed c.args.from s v w) c.to.view_is one) h) c.rename.ensures.ok

pub returns-clause-aside_err : goal.returns-clause-aside_err
returns-clause-aside_err g c = on_err c.rename.result (λ d t b k h ch.
    let v = g.H.Host.view c.args.host.now in
    let w = g.H.Host.view c.rename.new.self in
    let lawful : TellsCrashes v = (record { only = g.met.H.Host.only_now c.args.host.now; told = g.met.H.Host.told_stays c.args.host.now }) in
    let one = subst (λ (s : Spot). MayRenamed s (record { area = c.to.inside.area; name = c.to.inside.name }) v w) c.from.view_is (d t) in
    may_put_aside c.args.from c.args.to b k v w lawful ch (subst (λ (s : Spot). MayRenamed c.args.from s v w) c.to.view_is one) h) c.rename.ensures.err

pub returns-clause-notes : goal.returns-clause-notes
returns-clause-notes g c t not_from not_to =
    let v = g.H.Host.view c.args.host.now in
    let w = g.H.Host.view c.rename.new.self in
    let full = λ (d : MayRenamed (record { area = c.from.inside.area; name = c.from.inside.name }) (record { area = c.to.inside.area; name = c.to.inside.name }) v w). subst (λ (s : Spot). MayRenamed c.args.from s v w) c.to.view_is (subst (λ (s : Spot). MayRenamed s (record { area = c.to.inside.area; name = c.to.inside.name }) v w) c.from.view_is d) in
    either c.rename.result
    (λ d. renames_no_notes c.args.from c.args.to v w (full (inl (d t))) not_from not_to)
    (λ d. renames_no_notes c.args.from c.args.to v w (full (d t)) not_from not_to)
    c.rename.ensures.ok c.rename.ensures.err
