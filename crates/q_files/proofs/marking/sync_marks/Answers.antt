use Rattle.std.proofs.Common.{subst}
use Rattle.q_model.specs.Values.{Spot}
use Rattle.q_host.specs.Calls.{Syncs}
use Rattle.q_books.specs.HostStands.{TellsCrashes}
use Rattle.q_books.proofs.Results.{on_err, on_ok}
use Rattle.q_files.proofs.MarkCalls.{may_sync, syncs}
use Rattle.q_files.proofs.marking.sync_marks.Goals as goal

pub returns-clause-ok : goal.returns-clause-ok
returns-clause-ok g c = on_ok c.sync.result (λ d t b k h ch.
    let v = g.H.Host.view c.args.host.now in
    let w = g.H.Host.view c.sync.new.self in
    let lawful : TellsCrashes v = (record { only = g.met.H.Host.only_now c.args.host.now; told = g.met.H.Host.told_stays c.args.host.now }) in
    syncs c.args.spot b k v w lawful ch (subst (λ (s : Spot). Syncs s.area s.name v w) c.spot.view_is (d t)) h) c.sync.ensures.ok

pub returns-clause-err : goal.returns-clause-err
returns-clause-err g c = on_err c.sync.result (λ d t b k h ch.
    let v = g.H.Host.view c.args.host.now in
    let w = g.H.Host.view c.sync.new.self in
    let lawful : TellsCrashes v = (record { only = g.met.H.Host.only_now c.args.host.now; told = g.met.H.Host.told_stays c.args.host.now }) in
    may_sync c.args.spot b k v w lawful ch (d t) h) c.sync.ensures.err
