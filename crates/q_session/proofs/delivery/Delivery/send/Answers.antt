use Rattle.std.proofs.Common.{ap, sym, ◌∙◌, arith, Ok}
use Rattle.q_session.proofs.Sendings.{not_filled, sending_filled, sending_flushed, sends_due, sends_short}
use Rattle.q_host.proofs.Stays.{stays_on}
use Rattle.q_link.proofs.Sparing.{spares_then}
use Rattle.q_session.proofs.Standing.{stands_still}
use Rattle.q_session.specs.declared.outbox.Sent.TheVariants as sent
use Rattle.q_session.proofs.delivery.Delivery.send.Goals as goal

pub returns-in-NotYet-clause-sends : goal.returns-in-NotYet-clause-sends
returns-in-NotYet-clause-sends g c =
    sends_due c.flush.new.self (g.L.Link.view c.flush.new.link) sent.NotYet c.loop-self.invariant.sending c.in-NotYet.ensures.link c.in-NotYet.ensures.gave (λ e. cc)

pub returns-in-Lost-clause-sends : goal.returns-in-Lost-clause-sends
returns-in-Lost-clause-sends g c =
    sends_due c.flush.new.self (g.L.Link.view c.flush.new.link) sent.Lost c.loop-self.invariant.sending c.in-Lost.ensures.link c.in-Lost.ensures.gave (λ e. cc)

pub returns-then-is_idle-clause-sends : goal.returns-then-is_idle-clause-sends
returns-then-is_idle-clause-sends g c =
    sends_due c.flush.new.self (g.L.Link.view c.flush.new.link) sent.All c.loop-self.invariant.sending c.in-All.ensures.link c.in-All.ensures.gave (λ e. sym c.is_idle.ensures ∙ c.if-is_idle.true)

pub returns-then-not-branch-clause-sends : goal.returns-then-not-branch-clause-sends
returns-then-not-branch-clause-sends g c =
    let i = c.loop-self.invariant in
    let e = c.in_ok-fill.ensures in
    sends_short c.fill.new.outbox c.fill.new.self (sending_flushed c.flush.new.self (g.L.Link.view c.flush.new.link) i.sending c.in-All.ensures.link c.in-All.ensures.gave)
    (e.outbox_kept (not_filled c.in_ok-fill.field-0 c.if-not-branch.true)) (e.kept (not_filled c.in_ok-fill.field-0 c.if-not-branch.true))
    (λ tells mail is placed. e.short (ap Ok c.if-not-branch.true) tells mail (stands_still g.H.Host.tells (g.H.Host.view c.args.host.now) (g.H.Host.view c.loop-self.host) c.args.self.now.content.spot c.loop-self.self.content.spot mail i.stays i.sending.same.spot is) placed)

pub loop-self-preserved : goal.loop-self-preserved
loop-self-preserved g c =
    let i = c.loop-self.invariant in
    let e = c.in_ok-fill.ensures in
    record {
      sending = sending_filled c.fill.new.outbox c.fill.new.self (sending_flushed c.flush.new.self (g.L.Link.view c.flush.new.link) i.sending c.in-All.ensures.link c.in-All.ensures.gave)
          c.in-All.ensures.link.1 (sym c.is_idle.ensures ∙ c.if-is_idle.false) e.spot
          (λ tells mail is placed. e.filled (ap Ok c.if-not-branch.false) tells mail (stands_still g.H.Host.tells (g.H.Host.view c.args.host.now) (g.H.Host.view c.loop-self.host) c.args.self.now.content.spot c.loop-self.self.content.spot mail i.stays i.sending.same.spot is) placed);
      usable = c.in-All.ensures.uses;
      spared = spares_then 0 0 (g.L.Link.view c.args.link.now).waits_left (g.L.Link.view c.loop-self.link).waits_left (g.L.Link.view c.flush.new.link).waits_left i.spared c.in-All.ensures.spares;
      stays = λ t. stays_on (g.H.Host.view c.args.host.now) (g.H.Host.view c.loop-self.host) (g.H.Host.view c.fill.new.host) (i.stays t) (e.stays t);
      disk = omega (arith, i.disk, e.cause.disk_later);
      tell = omega (arith, i.tell, e.cause.tell_later);
    }

pub returns-in-NotYet-clause-spares : goal.returns-in-NotYet-clause-spares
returns-in-NotYet-clause-spares g c =
    spares_then 0 1 (g.L.Link.view c.args.link.now).waits_left (g.L.Link.view c.loop-self.link).waits_left (g.L.Link.view c.flush.new.link).waits_left c.loop-self.invariant.spared c.in-NotYet.ensures.spares

pub returns-then-is_idle-clause-spares : goal.returns-then-is_idle-clause-spares
returns-then-is_idle-clause-spares g c =
    spares_then 0 0 (g.L.Link.view c.args.link.now).waits_left (g.L.Link.view c.loop-self.link).waits_left (g.L.Link.view c.flush.new.link).waits_left c.loop-self.invariant.spared c.in-All.ensures.spares
