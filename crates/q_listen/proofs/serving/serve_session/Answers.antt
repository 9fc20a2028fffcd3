use Rattle.std.proofs.Common.{arith, subst}
use Rattle.std.specs.Prelude.{Ok}
use Rattle.q_listen.proofs.Counting.{given_counted, keeps_same, keeps_then}
use Rattle.q_listen.proofs.Going.{first_moment, first_refused, later_moment, later_refused, session_goes, session_refused}
use Rattle.q_listen.specs.Phases.{CountedPoll, PolledTo, PollsOn}
use Rattle.q_listen.specs.declared.polling.Polled.{Polled}
use Rattle.q_listen.proofs.serving.serve_session.Goals as goal

pub returns-in-Err-clause-serves : goal.returns-in-Err-clause-serves
returns-in-Err-clause-serves g c t o k goes =
    first_refused g.H.Host.view o (g.C.Clock.given c.args.clock.now) (g.C.Clock.given c.hear_moment.new.clock) (g.D.Door.view c.args.door.now) (g.H.Host.view c.args.host.now) (g.H.Host.view c.hear_moment.new.host) k (g.L.Link.view c.args.link.now) c.args.life
    c.in-Err.error (c.in-Err.ensures.err t) goes

pub returns-in_default-clause-serves : goal.returns-in_default-clause-serves
returns-in_default-clause-serves g c t o k goes =
    let link = g.L.Link.view c.args.link.now in
    let v = g.H.Host.view c.hear_moment.new.host in
    let begun = first_moment g.H.Host.view o (g.C.Clock.given c.args.clock.now) (g.C.Clock.given c.hear_moment.new.clock) (g.D.Door.view c.args.door.now) (g.H.Host.view c.args.host.now) v k link c.args.life c.in-Ok.life (c.in-Ok.ensures.ok t) goes in
    session_refused g.H.Host.view o (record { clock = g.C.Clock.given c.hear_moment.new.clock; door = g.D.Door.view c.args.door.now }) v k link c.in-Ok.life begun

pub polls-init : goal.polls-init
polls-init g c =
    let link = g.L.Link.view c.args.link.now in
    let door = g.D.Door.view c.args.door.now in
    let v = g.H.Host.view c.hear_moment.new.host in
    let e = c.in-Ok.ensures in
    let few = c.requires.ready.few in
    let new = c.in-Ok-new.ensures.begins in
    record {
      ready = record { going = e.going; stands = e.stands; few = let given = e.given in omega (arith, few, given) };
      heard = e.heard;
      goes_on = new.over;
      taken = new.untaken;
      so = λ t o k goes.
          let begun = first_moment g.H.Host.view o (g.C.Clock.given c.args.clock.now) (g.C.Clock.given c.hear_moment.new.clock) door (g.H.Host.view c.args.host.now) v k link c.args.life c.in-Ok.life (e.ok t) goes in
          session_goes g.H.Host.view o (record { clock = g.C.Clock.given c.hear_moment.new.clock; door = door }) v k link c.in-Ok.life c.now.result c.in-Ok-new.intake c.now.ensures.ledger c.in-Ok-new.ensures.serves new begun;
      counts = λ first counted. given_counted first door _ c.args.life.given c.in-Ok.life.given e.given counted;
      keeps = keeps_same door;
      disk_later = e.cause.disk_later;
      tell_later = e.cause.tell_later;
    }

pub returns-in-Ok-Over-clause-serves : goal.returns-in-Ok-Over-clause-serves
returns-in-Ok-Over-clause-serves g c t o k goes =
    let v = g.H.Host.view c.serve_poll.new.host in
    let clock = g.C.Clock.given c.polls.clock in
    subst (λ (p : Polled). PolledTo g.H.Host.view o (record { clock = clock; door = g.D.Door.view c.serve_poll.new.door }) v k (g.L.Link.view c.serve_poll.new.link) c.serve_poll.new.intake c.args.rests (Ok p)) c.in-Ok-Over.field-0-is
    (c.in-Ok-Over.ensures.serves t o clock k (c.polls.invariant.so t o k goes))

pub returns-in-Ok-Spent-clause-serves : goal.returns-in-Ok-Spent-clause-serves
returns-in-Ok-Spent-clause-serves g c t o k goes =
    let v = g.H.Host.view c.serve_poll.new.host in
    let clock = g.C.Clock.given c.polls.clock in
    subst (λ (p : Polled). PolledTo g.H.Host.view o (record { clock = clock; door = g.D.Door.view c.serve_poll.new.door }) v k (g.L.Link.view c.serve_poll.new.link) c.serve_poll.new.intake c.args.rests (Ok p)) c.in-Ok-Spent.field-0-is
    (c.in-Ok-Spent.ensures.serves t o clock k (c.polls.invariant.so t o k goes))

pub returns-in-Err-serve_poll-clause-serves : goal.returns-in-Err-serve_poll-clause-serves
returns-in-Err-serve_poll-clause-serves g c t o k goes =
    c.in-Err-serve_poll.ensures.serves t o (g.C.Clock.given c.polls.clock) k (c.polls.invariant.so t o k goes)

pub returns-in-Err-hear_moment-clause-serves : goal.returns-in-Err-hear_moment-clause-serves
returns-in-Err-hear_moment-clause-serves g c t o k goes =
    let view = g.H.Host.view in
    let v = view c.serve_poll.new.host in
    let clock = g.C.Clock.given c.polls.clock in
    let door = g.D.Door.view c.serve_poll.new.door in
    let link = g.L.Link.view c.serve_poll.new.link in
    let i = c.serve_poll.new.intake in
    let next = c.in-Ok-Onward.next in
    let on = subst (λ (p : Polled). PollsOn g.H.Host.tells c.args.rests v i (Ok p)) c.in-Ok-Onward.field-0-is c.in-Ok-Onward.ensures.goes_on in
    let polled = subst (λ (p : Polled). PolledTo view o (record { clock = clock; door = door }) v k link i c.args.rests (Ok p)) c.in-Ok-Onward.field-0-is
    (c.in-Ok-Onward.ensures.serves t o clock k (c.polls.invariant.so t o k goes)) in
    later_refused view o clock (g.C.Clock.given c.hear_moment-in-polls.new.clock) door v (view c.hear_moment-in-polls.new.host) k link next i on.1 c.in-Err-hear_moment.error (c.in-Err-hear_moment.ensures.err t) polled

pub polls-preserved : goal.polls-preserved
polls-preserved g c =
    let view = g.H.Host.view in
    let v = view c.serve_poll.new.host in
    let clock = g.C.Clock.given c.polls.clock in
    let door = g.D.Door.view c.serve_poll.new.door in
    let link = g.L.Link.view c.serve_poll.new.link in
    let i = c.serve_poll.new.intake in
    let next = c.in-Ok-Onward.next in
    let e = c.in-Ok-hear_moment.ensures in
    let polled = c.in-Ok-Onward.ensures in
    let was = c.polls.invariant in
    let on = subst (λ (p : Polled). PollsOn g.H.Host.tells c.args.rests v i (Ok p)) c.in-Ok-Onward.field-0-is polled.goes_on in
    let few = on.0.few in
    let given = e.given in
    record {
      ready = record { going = e.going; stands = e.stands; few = omega (arith, few, given) };
      heard = e.heard;
      goes_on = on.2;
      taken = on.3;
      so = λ t o k goes. later_moment view o clock (g.C.Clock.given c.hear_moment-in-polls.new.clock) door v (view c.hear_moment-in-polls.new.host) k link next i on.1 c.in-Ok-hear_moment.life (e.ok t)
          (subst (λ (p : Polled). PolledTo view o (record { clock = clock; door = door }) v k link i c.args.rests (Ok p)) c.in-Ok-Onward.field-0-is (polled.serves t o clock k (was.so t o k goes)));
      counts = λ first counted. given_counted first door _ next.given c.in-Ok-hear_moment.life.given given
          (subst (λ (p : Polled). CountedPoll first door link c.args.rests (Ok p)) c.in-Ok-Onward.field-0-is (polled.counts first (was.counts first counted)));
      keeps = keeps_then (g.D.Door.view c.args.door.now) (g.D.Door.view c.polls.door) door was.keeps polled.door;
      disk_later =
          let a = was.disk_later in
          let b = polled.cause.disk_later in
          let d = e.cause.disk_later in
          omega (arith, a, b, d);
      tell_later =
          let a = was.tell_later in
          let b = polled.cause.tell_later in
          let d = e.cause.tell_later in
          omega (arith, a, b, d);
    }
