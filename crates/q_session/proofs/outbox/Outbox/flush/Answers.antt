use Rattle.q_link.proofs.Sparing.{spares_then}
use Rattle.q_session.proofs.Using.{called_open, closed_once}
use Rattle.std.proofs.Common.{◌-◌, ◌≤◌, drop, length, List, rules, subst, take, ℕ}
use Rattle.q_link.specs.Reads.{Writes}
use Rattle.q_link.specs.declared.link.Put.TheVariants as put
use Rattle.q_session.specs.Outgoing.{pending}
use Rattle.q_session.proofs.Outboxes.{gives_failed, gives_no_more, gives_on}
use Rattle.q_session.proofs.outbox.Outbox.flush.Goals as goal

pub loop-self-preserved : goal.loop-self-preserved
loop-self-preserved g c =
    let now = c.loop-self.self-inside in
    let view = g.L.Link.view in
    let writes = subst (λ (xs : List ℕ). Writes (view c.loop-self.link) (view c.write.new.self) (put.Gave c.in-Gave.count) (take (now.to - now.from) (drop now.from xs))) c.deref.ensures c.in-Gave.ensures.writes in
    let more = gives_on (pending c.args.self.now) now.bytes.value now.from now.to c.in-Gave.count (view c.args.link.now) (view c.loop-self.link) (view c.write.new.self)
    c.loop-self.invariant.order writes.1 c.loop-self.invariant.link c.loop-self.invariant.gave writes.2 in
    record { order = more.0; within = c.loop-self.invariant.within; link = more.1; usable = called_open (view c.loop-self.link).usage (view c.write.new.self).usage c.loop-self.invariant.usable c.in-Gave.ensures.writes.2.usage; spared = spares_then 0 0 (view c.args.link.now).waits_left (view c.loop-self.link).waits_left (view c.write.new.self).waits_left c.loop-self.invariant.spared c.in-Gave.ensures.writes.2.waits_left; gave = more.2 }

pub returns-in-NotYet-clause-link : goal.returns-in-NotYet-clause-link
returns-in-NotYet-clause-link g c =
    let now = c.loop-self.self-inside in
    let view = g.L.Link.view in
    let fits : now.to ≤ length now.bytes.value = subst (λ (xs : List ℕ). now.to ≤ length xs) c.deref.ensures (search rules) in
    gives_no_more now.bytes.value now.from now.to (view c.args.link.now) (view c.loop-self.link) (view c.write.new.self)
    c.loop-self-test.true fits c.loop-self.invariant.link c.in-NotYet.ensures.writes

pub returns-in-Failed-clause-link : goal.returns-in-Failed-clause-link
returns-in-Failed-clause-link g c =
    let now = c.loop-self.self-inside in
    let view = g.L.Link.view in
    let fits : now.to ≤ length now.bytes.value = subst (λ (xs : List ℕ). now.to ≤ length xs) c.deref.ensures (search rules) in
    gives_failed now.bytes.value now.from now.to (view c.args.link.now) (view c.loop-self.link) (view c.write.new.self)
    c.loop-self-test.true fits c.loop-self.invariant.link c.in-Failed.ensures.writes

pub returns-in-NotYet-clause-uses : goal.returns-in-NotYet-clause-uses
returns-in-NotYet-clause-uses g c = called_open (g.L.Link.view c.loop-self.link).usage (g.L.Link.view c.write.new.self).usage c.loop-self.invariant.usable c.in-NotYet.ensures.writes.usage

pub returns-in-Failed-clause-uses : goal.returns-in-Failed-clause-uses
returns-in-Failed-clause-uses g c = closed_once (g.L.Link.view c.loop-self.link).usage (g.L.Link.view c.write.new.self).usage c.loop-self.invariant.usable c.in-Failed.ensures.writes.usage

pub returns-in-NotYet-clause-spares : goal.returns-in-NotYet-clause-spares
returns-in-NotYet-clause-spares g c =
    let view = g.L.Link.view in
    spares_then 0 1 (view c.args.link.now).waits_left (view c.loop-self.link).waits_left (view c.write.new.self).waits_left c.loop-self.invariant.spared c.in-NotYet.ensures.writes.waits_left
