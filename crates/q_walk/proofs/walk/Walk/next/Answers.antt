use Rattle.std.proofs.Common.{arith, subst}
use Rattle.q_host.proofs.Stays.{stays_on}
use Rattle.q_walk.specs.Steps.{Leads, LeavesFewer}
use Rattle.q_walk.proofs.Leading.{led}
use Rattle.q_walk.proofs.walk.Walk.next.Goals as goal

pub returns-in-Given-clause-next : goal.returns-in-Given-clause-next
returns-in-Given-clause-next g c t b ms stands ahead =
    let f = (g.H.Host.view c.args.host.now).files in
    subst (Leads f b c.step.new.self ms) c.in-Given.is
    (led f (g.H.Host.view c.loop-found.host).files b c.loop-found.self c.step.new.self ms c.in_ok-found.field-0 (c.loop-found.invariant.stays t).files (c.in_ok-found.ensures.step t b ms) stands (c.loop-found.invariant.ahead t b ms stands ahead))

pub returns-in-Ended-clause-next : goal.returns-in-Ended-clause-next
returns-in-Ended-clause-next g c t b ms stands ahead =
    let f = (g.H.Host.view c.args.host.now).files in
    subst (Leads f b c.step.new.self ms) c.in-Ended.is
    (led f (g.H.Host.view c.loop-found.host).files b c.loop-found.self c.step.new.self ms c.in_ok-found.field-0 (c.loop-found.invariant.stays t).files (c.in_ok-found.ensures.step t b ms) stands (c.loop-found.invariant.ahead t b ms stands ahead))

pub loop-found-preserved : goal.loop-found-preserved
loop-found-preserved g c = record {
  fewer = omega (arith, c.loop-found.invariant.fewer, subst (LeavesFewer c.loop-found.self c.step.new.self) c.in-Passed.is c.in_ok-found.ensures.fewer);
  ahead = λ t b ms stands ahead.
      let f = (g.H.Host.view c.args.host.now).files in
      subst (Leads f b c.step.new.self ms) c.in-Passed.is
      (led f (g.H.Host.view c.loop-found.host).files b c.loop-found.self c.step.new.self ms c.in_ok-found.field-0 (c.loop-found.invariant.stays t).files (c.in_ok-found.ensures.step t b ms) stands (c.loop-found.invariant.ahead t b ms stands ahead));
  stays = λ t. stays_on (g.H.Host.view c.args.host.now) (g.H.Host.view c.loop-found.host) (g.H.Host.view c.step.new.host) (c.loop-found.invariant.stays t) (c.step.ensures.stays t);
  disk_later = omega (arith, c.loop-found.invariant.disk_later, c.step.ensures.cause.disk_later);
  tell_later = omega (arith, c.loop-found.invariant.tell_later, c.step.ensures.cause.tell_later);
}

pub loop-found-smaller : goal.loop-found-smaller
loop-found-smaller g c = subst (LeavesFewer c.loop-found.self c.step.new.self) c.in-Passed.is c.in_ok-found.ensures.fewer

pub returns-in-Given-clause-fewer : goal.returns-in-Given-clause-fewer
returns-in-Given-clause-fewer g c = omega (arith, c.loop-found.invariant.fewer, subst (LeavesFewer c.loop-found.self c.step.new.self) c.in-Given.is c.in_ok-found.ensures.fewer)
