use Rattle.std.proofs.Common.{Option, subst}
use Rattle.std.specs.Prelude.{IfSome}
use Rattle.q_link.specs.WaitsLeft.{Spares}
use Rattle.q_agent.specs.Openings.{Connected, with_link}
use Rattle.q_agent.specs.Readings.{IsLetter}
use Rattle.q_agent.specs.declared.reading.Letter.{Letter}
use Rattle.q_agent.proofs.Beginning.{begins_by}
use Rattle.q_agent.proofs.opening.begin.Goals as goal

pub returns-clause-begins : goal.returns-clause-begins
returns-clause-begins g c =
    let letter = subst (λ (r : Option Letter). IfSome r (IsLetter g.H.Host.tells (g.H.Host.view c.args.host.now) c.args.spot c.args.positions.now)) c.in-Some.is c.in_ok-letter.ensures.letter in
    let link = subst (λ (r : Option g.row.L.Denot). Connected g.L.Link.view c.args.hop.now (g.N.Hops.view c.args.hops.now) (g.N.Hops.view c.connect.new.hops) r) c.in-Some-2.is c.in_ok-link.ensures.connected in
    let spares = subst (λ (r : Option g.row.L.Denot). Spares 0 (g.N.Hops.view c.args.hops.now).waits_left (with_link g.L.Link.view (g.N.Hops.view c.connect.new.hops) r)) c.in-Some-2.is c.in_ok-link.ensures.spares in
    begins_by g.L.Link.view g.H.Host.tells (g.H.Host.view c.args.host.now) c.args.spot c.args.hop.now c.args.positions.now c.args.now (g.N.Hops.view c.args.hops.now) (g.N.Hops.view c.connect.new.hops) c.in-Some.letter
    (record { session = c.in_ok-session.session; link = c.in-Some-2.link }) letter link c.in_ok-session.ensures.begins spares c.in_ok-session.ensures.serves
