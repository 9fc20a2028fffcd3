use Rattle.q_session.proofs.Sparing.{spared_step}
use Rattle.q_session.proofs.Using.{open_step, open_unmisused}
use Rattle.q_session.proofs.Hearings.{steps_code, steps_lost, steps_no_reply, steps_not_yet}
use Rattle.q_session.proofs.delivery.Delivery.hear.Goals as goal

pub returns-in-NotYet-clause-steps : goal.returns-in-NotYet-clause-steps
returns-in-NotYet-clause-steps g c = λ tells.
    steps_not_yet tells c.args.self.now c.receive.new.self (g.L.Link.view c.args.link.now) (g.L.Link.view c.receive.new.link) c.requires.sent c.in-NotYet.ensures.link c.in-NotYet.ensures.got

pub returns-in-NoReply-clause-steps : goal.returns-in-NoReply-clause-steps
returns-in-NoReply-clause-steps g c = λ tells.
    steps_no_reply tells c.args.self.now c.receive.new.self (g.L.Link.view c.args.link.now) (g.L.Link.view c.receive.new.link) c.requires.sent c.in-NoReply.ensures.link c.in-NoReply.ensures.got

pub returns-in-Lost-clause-steps : goal.returns-in-Lost-clause-steps
returns-in-Lost-clause-steps g c = λ tells.
    steps_lost tells c.args.self.now c.receive.new.self (g.L.Link.view c.args.link.now) (g.L.Link.view c.receive.new.link) c.requires.sent c.in-Lost.ensures.link c.in-Lost.ensures.got

pub returns-clause-steps : goal.returns-clause-steps
returns-clause-steps g c = λ tells.
    steps_code tells c.args.self.now c.act.new.self c.receive.new.self c.in-Code.code (g.L.Link.view c.args.link.now) (g.L.Link.view c.receive.new.link) c.act.result c.requires.sent c.in-Code.ensures.link c.in-Code.ensures.got
    c.act.ensures.never (λ mail t. c.act.ensures.acts tells mail t)

pub returns-clause-uses : goal.returns-clause-uses
returns-clause-uses g c = open_step c.act.result (g.L.Link.view c.receive.new.link).usage c.in-Code.ensures.uses

pub returns-in-NoReply-clause-uses : goal.returns-in-NoReply-clause-uses
returns-in-NoReply-clause-uses g c = open_unmisused (g.L.Link.view c.receive.new.link).usage c.in-NoReply.ensures.uses

pub returns-clause-spares : goal.returns-clause-spares
returns-clause-spares g c =
    spared_step c.act.result (g.L.Link.view c.args.link.now).waits_left (g.L.Link.view c.receive.new.link).waits_left c.act.ensures.never c.in-Code.ensures.spares
