use Rattle.std.proofs.Common.{subst}
use Rattle.q_smtpd.proofs.Polling.{hears_fits, hears_stands}
use Rattle.q_smtpd.specs.Hearings.{Hears, Holds}
use Rattle.q_smtpd.specs.Intakes.{comes}
use Rattle.q_smtpd.specs.Places.{Place}
use Rattle.q_smtpd.specs.declared.hearing.Heard.{Heard}
use Rattle.q_smtpd.proofs.session.Session.act.Goals as goal

pub returns-in-Nothing-clause-stands : goal.returns-in-Nothing-clause-stands
returns-in-Nothing-clause-stands c = hears_stands c.args.self.now.hearing c.hear.new.self c.args.byte c.in_ok-hear.field-0 c.requires.stands c.in_ok-hear.ensures

pub returns-in-Answer-clause-stands : goal.returns-in-Answer-clause-stands
returns-in-Answer-clause-stands c = hears_stands c.args.self.now.hearing c.hear.new.self c.args.byte c.in_ok-hear.field-0 c.requires.stands c.in_ok-hear.ensures

pub returns-in-Mail-clause-stands : goal.returns-in-Mail-clause-stands
returns-in-Mail-clause-stands c = hears_stands c.args.self.now.hearing c.hear.new.self c.args.byte c.in_ok-hear.field-0 c.requires.stands c.in_ok-hear.ensures

pub returns-in-Mail-clause-form : goal.returns-in-Mail-clause-form
returns-in-Mail-clause-form c =
    hears_fits c.args.self.now.hearing c.hear.new.self c.args.byte c.in-Mail.mail c.requires.stands
    (subst (λ (h : Heard). (p : Place) → Holds p c.args.self.now.hearing → Hears (comes p c.args.byte) h c.hear.new.self) c.in-Mail.is c.in_ok-hear.ensures)
