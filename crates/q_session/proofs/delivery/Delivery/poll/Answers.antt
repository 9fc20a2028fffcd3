use Rattle.std.proofs.Common.{Ok, ap, arith, length, subst, sym}
use Rattle.q_host.specs.declared.error.HostError.{HostError}
use Rattle.q_session.specs.Uses.{SparesStep, UsesStep}
use Rattle.q_link.proofs.Sparing.{spares_then}
use Rattle.q_session.proofs.Sparing.{over_spares}
use Rattle.q_session.proofs.Using.{open_unmisused, over_uses}
use Rattle.q_model.specs.declared.outcome.SiteState.{SiteState}
use Rattle.q_model.specs.declared.outcome.SiteState.TheVariants.{Down, Up}
use Rattle.q_session.proofs.CodeLaws.{put_off_coded, settled_coded}
use Rattle.q_session.specs.Codes.{HasCodes}
use Rattle.q_session.specs.declared.polled.Polled.{Polled}
use Rattle.q_session.proofs.Polling.{along_step, awaits_along, over_down, over_late, over_up, same_on, same_site, steps_along}
use Rattle.q_host.proofs.Stays.{stays_on}
use Rattle.q_session.proofs.Standing.{stands_still}
use Rattle.q_session.specs.Mails.{Mail, StandsAt}
use Rattle.q_session.specs.Polls.{IsOver}
use Rattle.q_session.specs.Steps.{StaysSound, Steps}
use Rattle.q_session.specs.declared.steps.Step.{Step}
use Rattle.q_session.specs.declared.steps.Step.TheVariants.{Lost, Settles, Waits}
use Rattle.q_session.proofs.delivery.Delivery.poll.Goals as goal

pub loop-self-preserved : goal.loop-self-preserved
loop-self-preserved g c =
    let tells = g.H.Host.tells in
    let first = g.H.Host.view c.args.host.now in
    let here = g.H.Host.view c.loop-self.host in
    let i = c.loop-self.invariant in
    let e = c.in_ok-step.ensures in
    let still : (mail : Mail) → StandsAt tells first c.args.self.now.content.spot mail → StandsAt tells here c.loop-self.self.content.spot mail = λ mail is. stands_still tells first here c.args.self.now.content.spot c.loop-self.self.content.spot mail i.stays i.along.same.spot is in
    let step = subst (λ (s : Step). Steps tells (StandsAt tells here c.loop-self.self.content.spot) c.loop-self.self c.step.new.self (g.L.Link.view c.loop-self.link) (g.L.Link.view c.step.new.link) s) c.in-Onward.is e.steps in
    let sound = subst (λ (s : Step). StaysSound c.step.new.self s) c.in-Onward.is e.sound in
    record {
      along = along_step c.step.new.self (g.L.Link.view c.step.new.link) i.along still sound e.same step;
      usable = subst (λ (s : Step). UsesStep s (g.L.Link.view c.step.new.link).usage) c.in-Onward.is e.uses;
      spared = spares_then 0 0 (g.L.Link.view c.args.link.now).waits_left (g.L.Link.view c.loop-self.link).waits_left (g.L.Link.view c.step.new.link).waits_left i.spared
          (subst (λ (s : Step). SparesStep s (g.L.Link.view c.loop-self.link).waits_left (g.L.Link.view c.step.new.link).waits_left) c.in-Onward.is e.spares);
      stays = λ t. stays_on first here (g.H.Host.view c.step.new.host) (i.stays t) (e.stays t);
      disk = omega (arith, i.disk, e.cause.disk_later);
      tell = omega (arith, i.tell, e.cause.tell_later);
    }

pub returns-in-Waits-clause-serves : goal.returns-in-Waits-clause-serves
returns-in-Waits-clause-serves g c =
    let tells = g.H.Host.tells in
    let first = g.H.Host.view c.args.host.now in
    let here = g.H.Host.view c.loop-self.host in
    let i = c.loop-self.invariant in
    let e = c.in_ok-step.ensures in
    let still : (mail : Mail) → StandsAt tells first c.args.self.now.content.spot mail → StandsAt tells here c.loop-self.self.content.spot mail = λ mail is. stands_still tells first here c.args.self.now.content.spot c.loop-self.self.content.spot mail i.stays i.along.same.spot is in
    let step = subst (λ (s : Step). Steps tells (StandsAt tells here c.loop-self.self.content.spot) c.loop-self.self c.step.new.self (g.L.Link.view c.loop-self.link) (g.L.Link.view c.step.new.link) s) c.in-Waits.is e.steps in
    λ _ mail is serves t told. ((steps_along c.step.new.self (g.L.Link.view c.step.new.link) Waits i.along still step).becomes mail is serves t told).0

pub returns-in-Waits-clause-awaits : goal.returns-in-Waits-clause-awaits
returns-in-Waits-clause-awaits g c =
    let tells = g.H.Host.tells in
    let first = g.H.Host.view c.args.host.now in
    let here = g.H.Host.view c.loop-self.host in
    let i = c.loop-self.invariant in
    let e = c.in_ok-step.ensures in
    let still : (mail : Mail) → StandsAt tells first c.args.self.now.content.spot mail → StandsAt tells here c.loop-self.self.content.spot mail = λ mail is. stands_still tells first here c.args.self.now.content.spot c.loop-self.self.content.spot mail i.stays i.along.same.spot is in
    let step = subst (λ (s : Step). Steps tells (StandsAt tells here c.loop-self.self.content.spot) c.loop-self.self c.step.new.self (g.L.Link.view c.loop-self.link) (g.L.Link.view c.step.new.link) s) c.in-Waits.is e.steps in
    λ _ mail is serves t told. awaits_along (same_on c.args.self.now c.loop-self.self c.step.new.self i.along.same e.same) (steps_along c.step.new.self (g.L.Link.view c.step.new.link) Waits i.along still step) mail is serves t told

pub returns-in-Lost-clause-over : goal.returns-in-Lost-clause-over
returns-in-Lost-clause-over g c =
    let tells = g.H.Host.tells in
    let first = g.H.Host.view c.args.host.now in
    let here = g.H.Host.view c.loop-self.host in
    let i = c.loop-self.invariant in
    let e = c.in_ok-step.ensures in
    let still : (mail : Mail) → StandsAt tells first c.args.self.now.content.spot mail → StandsAt tells here c.loop-self.self.content.spot mail = λ mail is. stands_still tells first here c.args.self.now.content.spot c.loop-self.self.content.spot mail i.stays i.along.same.spot is in
    let step = subst (λ (s : Step). Steps tells (StandsAt tells here c.loop-self.self.content.spot) c.loop-self.self c.step.new.self (g.L.Link.view c.loop-self.link) (g.L.Link.view c.step.new.link) s) c.in-Lost.is e.steps in
    let a = steps_along c.step.new.self (g.L.Link.view c.step.new.link) Lost i.along still step in
    let new = c.give_up-in-Lost.new.self in
    let before = g.L.Link.view c.args.link.now in
    let v = g.L.Link.view c.step.new.link in
    λ site e mail is serves t told. subst (λ (s : SiteState). IsOver tells s c.args.now mail new t before v) (same_site c.give_up-in-Lost.result Down site c.give_up-in-Lost.ensures.down e)
    (over_down new c.args.now a c.give_up-in-Lost.ensures.keeps mail is serves t told)

pub returns-in-Settles-clause-over : goal.returns-in-Settles-clause-over
returns-in-Settles-clause-over g c =
    let tells = g.H.Host.tells in
    let first = g.H.Host.view c.args.host.now in
    let here = g.H.Host.view c.loop-self.host in
    let i = c.loop-self.invariant in
    let e = c.in_ok-step.ensures in
    let still : (mail : Mail) → StandsAt tells first c.args.self.now.content.spot mail → StandsAt tells here c.loop-self.self.content.spot mail = λ mail is. stands_still tells first here c.args.self.now.content.spot c.loop-self.self.content.spot mail i.stays i.along.same.spot is in
    let step = subst (λ (s : Step). Steps tells (StandsAt tells here c.loop-self.self.content.spot) c.loop-self.self c.step.new.self (g.L.Link.view c.loop-self.link) (g.L.Link.view c.step.new.link) s) c.in-Settles.is e.steps in
    let a = steps_along c.step.new.self (g.L.Link.view c.step.new.link) (Settles c.in-Settles.last) i.along still step in
    let new = c.quit.new.self in
    let before = g.L.Link.view c.args.link.now in
    let w = g.L.Link.view c.quit.new.link in
    λ site e mail is serves t told. subst (λ (s : SiteState). IsOver tells s c.args.now mail new t before w) (same_site c.quit.result Up site c.quit.ensures.up e)
    (over_up new w c.in-Settles.last c.args.now a c.quit.ensures.keeps c.quit.ensures.outcomes c.quit.ensures.quits mail is serves t told)

pub returns-then-saturating_sub-ge-PATIENCE-clause-over : goal.returns-then-saturating_sub-ge-PATIENCE-clause-over
returns-then-saturating_sub-ge-PATIENCE-clause-over g c =
    let new = c.give_up.new.self in
    let v = g.L.Link.view c.args.link.now in
    λ site e mail is serves t told. subst (λ (s : SiteState). IsOver g.H.Host.tells s c.args.now mail new t v v) (same_site c.give_up.result Down site c.give_up.ensures.down e)
    (over_late c.args.self.now new c.args.now v c.give_up.ensures.keeps (omega (arith, c.if-saturating_sub-ge-PATIENCE.true, c.saturating_sub.ensures)) mail serves t told)

pub returns-then-saturating_sub-ge-PATIENCE-clause-codes : goal.returns-then-saturating_sub-ge-PATIENCE-clause-codes
returns-then-saturating_sub-ge-PATIENCE-clause-codes g c =
    subst (λ (p : Polled). HasCodes p c.give_up.new.self) (sym c.give_up.ensures.down) (put_off_coded (length c.args.self.now.to) c.give_up.new.self.outcomes c.give_up.ensures.outcomes)

pub returns-in-Lost-clause-codes : goal.returns-in-Lost-clause-codes
returns-in-Lost-clause-codes g c =
    subst (λ (p : Polled). HasCodes p c.give_up-in-Lost.new.self) (sym c.give_up-in-Lost.ensures.down) (put_off_coded (length c.step.new.self.to) c.give_up-in-Lost.new.self.outcomes c.give_up-in-Lost.ensures.outcomes)

pub returns-in-Settles-clause-codes : goal.returns-in-Settles-clause-codes
returns-in-Settles-clause-codes g c =
    let last = c.in-Settles.last in
    let settled = c.in_ok-step.ensures.codes last (ap (λ (s : Step). Ok s) c.in-Settles.is) in
    subst (λ (p : Polled). HasCodes p c.quit.new.self) (sym c.quit.ensures.up) (settled_coded last c.step.new.self.dialogue.answers.items c.quit.new.self.outcomes settled c.quit.ensures.outcomes)

pub returns-in-Waits-clause-uses : goal.returns-in-Waits-clause-uses
returns-in-Waits-clause-uses g c = subst (λ (s : Step). UsesStep s (g.L.Link.view c.step.new.link).usage) c.in-Waits.is c.in_ok-step.ensures.uses

pub returns-in-Lost-clause-uses : goal.returns-in-Lost-clause-uses
returns-in-Lost-clause-uses g c =
    over_uses HostError c.give_up-in-Lost.result Down (g.L.Link.view c.step.new.link).usage c.give_up-in-Lost.ensures.down (subst (λ (s : Step). UsesStep s (g.L.Link.view c.step.new.link).usage) c.in-Lost.is c.in_ok-step.ensures.uses)

pub quit-requires-clause-usable : goal.quit-requires-clause-usable
quit-requires-clause-usable g c = subst (λ (s : Step). UsesStep s (g.L.Link.view c.step.new.link).usage) c.in-Settles.is c.in_ok-step.ensures.uses

pub returns-in-Settles-clause-uses : goal.returns-in-Settles-clause-uses
returns-in-Settles-clause-uses g c = over_uses HostError c.quit.result Up (g.L.Link.view c.quit.new.link).usage c.quit.ensures.up c.quit.ensures.uses

pub returns-then-saturating_sub-ge-PATIENCE-clause-uses : goal.returns-then-saturating_sub-ge-PATIENCE-clause-uses
returns-then-saturating_sub-ge-PATIENCE-clause-uses g c =
    over_uses HostError c.give_up.result Down (g.L.Link.view c.args.link.now).usage c.give_up.ensures.down (open_unmisused (g.L.Link.view c.args.link.now).usage c.requires.usable)

pub returns-in-Waits-clause-spares : goal.returns-in-Waits-clause-spares
returns-in-Waits-clause-spares g c =
    let here = (g.L.Link.view c.loop-self.link).waits_left in
    let new = (g.L.Link.view c.step.new.link).waits_left in
    spares_then 0 1 (g.L.Link.view c.args.link.now).waits_left here new c.loop-self.invariant.spared
    (subst (λ (s : Step). SparesStep s here new) c.in-Waits.is c.in_ok-step.ensures.spares)

pub returns-in-Lost-clause-spares : goal.returns-in-Lost-clause-spares
returns-in-Lost-clause-spares g c = over_spares c.give_up-in-Lost.result Down _ _ c.give_up-in-Lost.ensures.down

pub returns-in-Settles-clause-spares : goal.returns-in-Settles-clause-spares
returns-in-Settles-clause-spares g c = over_spares c.quit.result Up _ _ c.quit.ensures.up

pub returns-then-saturating_sub-ge-PATIENCE-clause-spares : goal.returns-then-saturating_sub-ge-PATIENCE-clause-spares
returns-then-saturating_sub-ge-PATIENCE-clause-spares g c = over_spares c.give_up.result Down _ _ c.give_up.ensures.down
