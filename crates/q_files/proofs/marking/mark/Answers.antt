use Rattle.std.proofs.Common.{[], ◌∷◌, subst}
use Rattle.q_model.specs.Values.{Spot}
use Rattle.q_host.specs.Calls.{Writes, WritesSome}
use Rattle.q_books.specs.HostStands.{TellsCrashes}
use Rattle.q_books.proofs.Results.{on_err, on_ok}
use Rattle.q_files.proofs.MarkCalls.{marks, may_marks, writes_no_notes}
use Rattle.q_files.proofs.Outcomes.{either}
use Rattle.q_files.proofs.marking.mark.Goals as goal

pub returns-clause-ok : goal.returns-clause-ok
returns-clause-ok g c = on_ok c.write_at.result (λ d t b k h ch.
    let v = g.H.Host.view c.args.host.now in
    let w = g.H.Host.view c.write_at.new.self in
    let at = c.args.mark_at in
    let lawful : TellsCrashes v = (record { only = g.met.H.Host.only_now c.args.host.now; told = g.met.H.Host.told_stays c.args.host.now }) in
    marks c.args.spot at b k v w lawful ch (subst (λ (s : Spot). Writes s.area s.name at (68 ∷ []) 1 v w) c.spot.view_is (d t)) h) c.write_at.ensures.ok

pub returns-clause-err : goal.returns-clause-err
returns-clause-err g c = on_err c.write_at.result (λ d t b k h ch.
    let v = g.H.Host.view c.args.host.now in
    let w = g.H.Host.view c.write_at.new.self in
    let at = c.args.mark_at in
    let lawful : TellsCrashes v = (record { only = g.met.H.Host.only_now c.args.host.now; told = g.met.H.Host.told_stays c.args.host.now }) in
    may_marks c.args.spot at b k v w lawful ch (subst (λ (s : Spot). WritesSome s.area s.name at (68 ∷ []) v w) c.spot.view_is (d t)) h) c.write_at.ensures.err

pub returns-clause-notes : goal.returns-clause-notes
returns-clause-notes g c t differ =
    let v = g.H.Host.view c.args.host.now in
    let w = g.H.Host.view c.write_at.new.self in
    let at = c.args.mark_at in
    either c.write_at.result
    (λ d. writes_no_notes c.args.spot at 1 (68 ∷ []) v w (subst (λ (s : Spot). Writes s.area s.name at (68 ∷ []) 1 v w) c.spot.view_is (d t)) differ)
    (λ d. let some = subst (λ (s : Spot). WritesSome s.area s.name at (68 ∷ []) v w) c.spot.view_is (d t) in writes_no_notes c.args.spot at some.0 (68 ∷ []) v w some.2 differ)
    c.write_at.ensures.ok c.write_at.ensures.err
