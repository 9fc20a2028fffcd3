use Rattle.std.proofs.Common.{inl, subst, ◌∙◌}
use Rattle.q_model.specs.declared.spot.Area.TheVariants as areas
use Rattle.q_model.specs.IdTexts.{id_text}
use Rattle.q_model.specs.Values.{Spot}
use Rattle.q_host.specs.Calls.{MayRemove, Removes}
use Rattle.q_host.proofs.Puts.{other_area}
use Rattle.q_books.specs.HostStands.{TellsCrashes}
use Rattle.q_books.proofs.Results.{both_ok}
use Rattle.q_files.proofs.Outcomes.{always_err}
use Rattle.q_files.proofs.Removals.{may_remove, may_unlink, removes, removes_no_notes}
use Rattle.q_files.proofs.removing.remove.Goals as goal

pub returns-in_err-remove-clause-err : goal.returns-in_err-remove-clause-err
returns-in_err-remove-clause-err g c = always_err c.from_residual.result (λ t b k h ch.
    let u = g.H.Host.view c.args.host.now in
    let v = g.H.Host.view c.remove.new.self in
    let lawful : TellsCrashes u = (record { only = g.met.H.Host.only_now c.args.host.now; told = g.met.H.Host.told_stays c.args.host.now }) in
    may_unlink c.args.spot c.args.id b k ch u v lawful h (subst (λ (s : Spot). MayRemove s.area s.name u v) c.spot.view_is (c.in_err-remove.ensures.err t)))

pub returns-in_err-remove-clause-notes : goal.returns-in_err-remove-clause-notes
returns-in_err-remove-clause-notes g c t differ n other =
    let u = g.H.Host.view c.args.host.now in
    let v = g.H.Host.view c.remove.new.self in
    removes_no_notes c.args.spot u v (subst (λ (s : Spot). MayRemove s.area s.name u v) c.spot.view_is (c.in_err-remove.ensures.err t)) differ n

pub returns-clause-ok : goal.returns-clause-ok
returns-clause-ok g c = both_ok c.drop_logs.result (λ gone also t b k h ch.
    let u = g.H.Host.view c.args.host.now in
    let v = g.H.Host.view c.remove.new.self in
    let w = g.H.Host.view c.drop_logs.new.host in
    let lawful : TellsCrashes u = (record { only = g.met.H.Host.only_now c.args.host.now; told = g.met.H.Host.told_stays c.args.host.now }) in
    removes c.args.spot c.args.id b k u v w lawful ch h (subst (λ (s : Spot). Removes s.area s.name u v) c.spot.view_is (c.in_ok-remove.ensures.ok t))
    (λ hid none stands. c.drop_logs.ensures.book t k hid none stands) (c.drop_logs.ensures.others t) (gone t)) c.drop_logs.ensures.bounce c.drop_logs.ensures.defer

pub returns-clause-err : goal.returns-clause-err
returns-clause-err g c = always_err c.drop_logs.result (λ t b k h ch.
    let u = g.H.Host.view c.args.host.now in
    let v = g.H.Host.view c.remove.new.self in
    let w = g.H.Host.view c.drop_logs.new.host in
    let lawful : TellsCrashes u = (record { only = g.met.H.Host.only_now c.args.host.now; told = g.met.H.Host.told_stays c.args.host.now }) in
    may_remove c.args.spot c.args.id b k u v w lawful ch h (subst (λ (s : Spot). Removes s.area s.name u v) c.spot.view_is (c.in_ok-remove.ensures.ok t))
    (λ hid none stands. c.drop_logs.ensures.book t k hid none stands))

pub returns-clause-notes : goal.returns-clause-notes
returns-clause-notes g c t differ n other =
    let u = g.H.Host.view c.args.host.now in
    let v = g.H.Host.view c.remove.new.self in
    c.drop_logs.ensures.others t areas.Defer n (other_area areas.Bounce (id_text c.args.id) areas.Defer n (λ e. cc)) other
    ∙ removes_no_notes c.args.spot u v (inl (subst (λ (s : Spot). Removes s.area s.name u v) c.spot.view_is (c.in_ok-remove.ensures.ok t))) differ n
