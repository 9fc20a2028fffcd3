use Rattle.std.proofs.Common.{subst, true, ◌∙◌}
use Rattle.q_smtpd.proofs.Polling.{along_step, ends_serves, mail_serves, polled, waits_serves}
use Rattle.q_smtpd.specs.Steps.{Steps}
use Rattle.q_smtpd.specs.declared.session.Session.{Session}
use Rattle.q_smtpd.specs.declared.session.Step.{Step}
use Rattle.q_smtpd.proofs.session.Session.poll.Goals as goal

pub loop-step-preserved : goal.loop-step-preserved
loop-step-preserved g c =
    let u = g.L.Link.view c.args.link.now in
    let v = g.L.Link.view c.loop-step.link in
    let w = g.L.Link.view c.step.new.link in
    let old : Session = c.args.self.now in
    let s : Session = c.loop-step.self in
    let new : Session = c.step.new.self in
    along_step c.args.now old s new u v w c.loop-step.invariant (subst (λ (step : Step). Steps s step new v w) c.in-Onward.is c.in-Ok.ensures.steps) c.in-Ok.ensures.counts c.in-Ok.ensures.stands

pub returns-in-Waits-clause-serves : goal.returns-in-Waits-clause-serves
returns-in-Waits-clause-serves g c = λ early. waits_serves (c.in-Ok.ensures.counts.untaken ∙ c.loop-step.invariant.untaken) (polled c.loop-step.invariant c.in-Waits.is c.in-Ok.ensures.steps)

pub returns-in-Waits-clause-brings : goal.returns-in-Waits-clause-brings
returns-in-Waits-clause-brings g c = (polled c.loop-step.invariant c.in-Waits.is c.in-Ok.ensures.steps).brings

pub returns-in-Waits-clause-uses : goal.returns-in-Waits-clause-uses
returns-in-Waits-clause-uses g c = (polled c.loop-step.invariant c.in-Waits.is c.in-Ok.ensures.steps).uses

pub returns-in-Waits-clause-spares : goal.returns-in-Waits-clause-spares
returns-in-Waits-clause-spares g c = (polled c.loop-step.invariant c.in-Waits.is c.in-Ok.ensures.steps).spares

pub returns-in-Mail-clause-serves : goal.returns-in-Mail-clause-serves
returns-in-Mail-clause-serves g c = λ early. mail_serves (polled c.loop-step.invariant c.in-Mail.is c.in-Ok.ensures.steps)

pub returns-in-Mail-clause-brings : goal.returns-in-Mail-clause-brings
returns-in-Mail-clause-brings g c = (polled c.loop-step.invariant c.in-Mail.is c.in-Ok.ensures.steps).brings

pub returns-in-Mail-clause-completes : goal.returns-in-Mail-clause-completes
returns-in-Mail-clause-completes g c = (polled c.loop-step.invariant c.in-Mail.is c.in-Ok.ensures.steps).completes

pub returns-in-Mail-clause-uses : goal.returns-in-Mail-clause-uses
returns-in-Mail-clause-uses g c = (polled c.loop-step.invariant c.in-Mail.is c.in-Ok.ensures.steps).uses

pub returns-in-Mail-clause-spares : goal.returns-in-Mail-clause-spares
returns-in-Mail-clause-spares g c = (polled c.loop-step.invariant c.in-Mail.is c.in-Ok.ensures.steps).spares

pub returns-in-Ends-clause-serves : goal.returns-in-Ends-clause-serves
returns-in-Ends-clause-serves g c = λ early. ends_serves true (c.in-Ok.ensures.counts.untaken ∙ c.loop-step.invariant.untaken) (polled c.loop-step.invariant c.in-Ends.is c.in-Ok.ensures.steps)

pub returns-in-Ends-clause-brings : goal.returns-in-Ends-clause-brings
returns-in-Ends-clause-brings g c = (polled c.loop-step.invariant c.in-Ends.is c.in-Ok.ensures.steps).brings

pub returns-in-Ends-clause-uses : goal.returns-in-Ends-clause-uses
returns-in-Ends-clause-uses g c = (polled c.loop-step.invariant c.in-Ends.is c.in-Ok.ensures.steps).uses

pub returns-in-Err-clause-uses : goal.returns-in-Err-clause-uses
returns-in-Err-clause-uses g c = λ usable. c.in-Err.ensures.usable (c.loop-step.invariant.passes.uses usable)
