use Rattle.std.proofs.Common.{[], length}
use Rattle.std.specs.Prelude.{unwrap_or}
use Rattle.q_model.specs.declared.spot.Area.TheVariants as areas
use Rattle.q_host.specs.View.{now}
use Rattle.q_books.proofs.Results.{on_ok}
use Rattle.q_files.proofs.LogWrites.{one_on, writes_one, writes_there}
use Rattle.q_files.proofs.Outcomes.{either}
use Rattle.q_files.proofs.noting.append.Goals as goal

pub returns-clause-written : goal.returns-clause-written
returns-clause-written g c = on_ok c.write_at.result (λ d t.
    writes_there areas.Defer c.args.name c.in_ok-at.at c.args.bytes.now (unwrap_or ((g.H.Host.view c.args.host.now).files areas.Defer c.args.name) []) (g.H.Host.view c.gate_at.new.host) (g.H.Host.view c.write_at.new.self)
    (d t) (c.in_ok-at.ensures.there t) (c.in_ok-at.ensures.at t)) c.write_at.ensures.ok

pub returns-clause-reads : goal.returns-clause-reads
returns-clause-reads g c t =
    let u = g.H.Host.view c.args.host.now in
    let v = g.H.Host.view c.gate_at.new.host in
    let w = g.H.Host.view c.write_at.new.self in
    one_on areas.Defer c.args.name (now u) (now v) (now w) (c.gate_at.ensures.reads t)
    (either c.write_at.result
    (λ d. writes_one areas.Defer c.args.name c.in_ok-at.at (length c.args.bytes.now) c.args.bytes.now v w (d t))
    (λ d. let some = d t in writes_one areas.Defer c.args.name c.in_ok-at.at some.0 c.args.bytes.now v w some.2)
    c.write_at.ensures.ok c.write_at.ensures.err)
