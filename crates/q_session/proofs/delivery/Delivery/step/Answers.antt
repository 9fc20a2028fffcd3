use Rattle.std.proofs.Common.{◌≡◌, arith, subst}
use Rattle.q_session.proofs.Sparing.{step_behind}
use Rattle.q_session.specs.Uses.{SparesSent}
use Rattle.q_session.proofs.Hearings.{steps_behind, steps_unsendable, steps_unsent}
use Rattle.q_session.specs.Mails.{StandsAt}
use Rattle.q_session.specs.Steps.{SendsDue}
use Rattle.q_session.specs.declared.outbox.Sent.{Sent}
use Rattle.q_session.specs.declared.steps.Step.TheVariants.{Settles}
use Rattle.q_session.proofs.delivery.Delivery.step.Goals as goal

pub returns-in-All-clause-steps : goal.returns-in-All-clause-steps
returns-in-All-clause-steps g c =
    let given = StandsAt g.H.Host.tells (g.H.Host.view c.args.host.now) c.args.self.now.content.spot in
    let sends = subst (λ (s : Sent). SendsDue g.H.Host.tells given c.args.self.now c.send.new.self (g.L.Link.view c.args.link.now) (g.L.Link.view c.send.new.link) s) c.in-All.is c.in_ok-send.ensures.sends in
    steps_behind g.H.Host.tells given c.args.self.now c.send.new.self c.hear.new.self
    (g.L.Link.view c.args.link.now) (g.L.Link.view c.send.new.link) (g.L.Link.view c.hear.new.link) c.hear.result c.send.ensures.link sends (c.hear.ensures.steps g.H.Host.tells)

pub returns-in-All-clause-faults : goal.returns-in-All-clause-faults
returns-in-All-clause-faults g c = omega (arith, c.send.ensures.link.faults, (c.hear.ensures.steps g.H.Host.tells).faults)

pub returns-in-NotYet-clause-steps : goal.returns-in-NotYet-clause-steps
returns-in-NotYet-clause-steps g c =
    let given = StandsAt g.H.Host.tells (g.H.Host.view c.args.host.now) c.args.self.now.content.spot in
    let sends = subst (λ (s : Sent). SendsDue g.H.Host.tells given c.args.self.now c.send.new.self (g.L.Link.view c.args.link.now) (g.L.Link.view c.send.new.link) s) c.in-NotYet.is c.in_ok-send.ensures.sends in
    steps_unsent g.H.Host.tells given c.args.self.now c.send.new.self (g.L.Link.view c.args.link.now) (g.L.Link.view c.send.new.link) c.send.ensures.link sends

pub returns-in-Lost-clause-steps : goal.returns-in-Lost-clause-steps
returns-in-Lost-clause-steps g c =
    let given = StandsAt g.H.Host.tells (g.H.Host.view c.args.host.now) c.args.self.now.content.spot in
    let sends = subst (λ (s : Sent). SendsDue g.H.Host.tells given c.args.self.now c.send.new.self (g.L.Link.view c.args.link.now) (g.L.Link.view c.send.new.link) s) c.in-Lost.is c.in_ok-send.ensures.sends in
    steps_unsendable g.H.Host.tells given c.args.self.now c.send.new.self (g.L.Link.view c.args.link.now) (g.L.Link.view c.send.new.link) c.send.ensures.link sends

pub returns-in-All-clause-codes : goal.returns-in-All-clause-codes
returns-in-All-clause-codes g c last is =
    let same : c.hear.result ≡ Settles last = cc in
    c.hear.ensures.codes last same

pub returns-in-All-clause-spares : goal.returns-in-All-clause-spares
returns-in-All-clause-spares g c =
    let first = (g.L.Link.view c.args.link.now).waits_left in
    let sent = (g.L.Link.view c.send.new.link).waits_left in
    step_behind c.hear.result first sent (g.L.Link.view c.hear.new.link).waits_left (subst (λ (s : Sent). SparesSent s first sent) c.in-All.is c.in_ok-send.ensures.spares) c.hear.ensures.spares

pub returns-in-NotYet-clause-spares : goal.returns-in-NotYet-clause-spares
returns-in-NotYet-clause-spares g c =
    subst (λ (s : Sent). SparesSent s (g.L.Link.view c.args.link.now).waits_left (g.L.Link.view c.send.new.link).waits_left) c.in-NotYet.is c.in_ok-send.ensures.spares
