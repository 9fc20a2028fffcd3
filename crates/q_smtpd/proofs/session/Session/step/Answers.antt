use Rattle.std.proofs.Common.{arith, ◌≡◌}
use Rattle.q_smtpd.proofs.Polling.{sent_passes, steps_then, stops_then}
use Rattle.q_smtpd.proofs.Stepping.{steps_full, steps_left, steps_lost, steps_unsent}
use Rattle.q_smtpd.proofs.Results.{if_ok, on_err}
use Rattle.q_smtpd.specs.Polls.{Stops}
use Rattle.q_smtpd.specs.Steps.{Steps}
use Rattle.q_smtpd.specs.declared.session.Session.{Session}
use Rattle.q_link.specs.declared.usage.Usage.TheVariants.{Open}
use Rattle.q_smtpd.proofs.session.Session.step.Goals as goal

pub returns-clause-steps : goal.returns-clause-steps
returns-clause-steps g c =
    let u = g.L.Link.view c.args.link.now in
    let v = g.L.Link.view c.flush.new.link in
    let w = g.L.Link.view c.receive.new.link in
    let old : Session = c.args.self.now in
    let mid : Session = record old { outbox = c.flush.new.self } in
    let new : Session = c.receive.new.self in
    if_ok c.receive.result (λ step. Steps mid step new v w) (λ step. Steps old step new u w)
    (λ step st. steps_then old mid step new u v w (sent_passes old c.flush.new.self u v c.in-All.ensures.link c.in-All.ensures.gave c.in-All.ensures.uses c.in-All.ensures.spares) st) c.receive.ensures.steps

pub returns-clause-err : goal.returns-clause-err
returns-clause-err g c =
    let u = g.L.Link.view c.args.link.now in
    let v = g.L.Link.view c.flush.new.link in
    let w = g.L.Link.view c.receive.new.link in
    let old : Session = c.args.self.now in
    let mid : Session = record old { outbox = c.flush.new.self } in
    on_err c.receive.result (Stops mid v w) (Stops old u w)
    (λ stops. stops_then old mid u v w (sent_passes old c.flush.new.self u v c.in-All.ensures.link c.in-All.ensures.gave c.in-All.ensures.uses c.in-All.ensures.spares) stops) c.receive.ensures.err

pub returns-then-self-ge-BYTES-clause-steps : goal.returns-then-self-ge-BYTES-clause-steps
returns-then-self-ge-BYTES-clause-steps g c = steps_full c.args.self.now (g.L.Link.view c.args.link.now) c.requires.taken c.if-self-ge-BYTES.true

pub returns-in-NotYet-clause-steps : goal.returns-in-NotYet-clause-steps
returns-in-NotYet-clause-steps g c =
    let e = c.in-NotYet.ensures in
    steps_unsent c.args.self.now c.flush.new.self (g.L.Link.view c.args.link.now) (g.L.Link.view c.flush.new.link) c.requires.taken (omega (arith, c.if-self-ge-BYTES.false)) e.sends e.link e.gave e.uses e.spares

pub returns-in-Lost-clause-steps : goal.returns-in-Lost-clause-steps
returns-in-Lost-clause-steps g c =
    let e = c.in-Lost.ensures in
    steps_lost c.args.self.now c.flush.new.self (g.L.Link.view c.args.link.now) (g.L.Link.view c.flush.new.link) c.requires.taken e.sends e.link e.gave e.uses

pub returns-then-has_left-clause-steps : goal.returns-then-has_left-clause-steps
returns-then-has_left-clause-steps g c =
    let e = c.in-All.ensures in
    steps_left c.args.self.now c.flush.new.self (g.L.Link.view c.args.link.now) (g.L.Link.view c.flush.new.link) c.requires.taken (c.has_left.ensures.0 c.if-has_left.true) e.sends e.link e.gave e.uses

pub returns-clause-usable : goal.returns-clause-usable
returns-clause-usable g c =
    let u = g.L.Link.view c.args.link.now in
    let v = g.L.Link.view c.flush.new.link in
    let w = g.L.Link.view c.receive.new.link in
    on_err c.receive.result (v.usage ≡ Open → w.usage ≡ Open) (u.usage ≡ Open → w.usage ≡ Open) (λ h usable. h (c.in-All.ensures.uses usable)) c.receive.ensures.usable
