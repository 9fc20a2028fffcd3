use Rattle.std.proofs.Common.{◌≡◌, ◌≤◌, ◌+◌, ◌<◌, ◌∙◌, [], arith, false, Option, refl, subst, sym, true}
use Rattle.std.specs.Prelude.{IfSome}
use Rattle.q_agent.proofs.Sparing.{spares_less, spares_on, spares_same}
use Rattle.q_agent.specs.WaitsLeft.{waits_left}
use Rattle.q_books.specs.HostStands.{TellsCrashes}
use Rattle.q_drain.proofs.PollingAll.{fails_then, filled_then, may_serve, served_none, served_then, stops_serving}
use Rattle.q_drain.proofs.Polls.{same_then}
use Rattle.q_drain.proofs.Progressing.{left_then}
use Rattle.q_drain.specs.Polling.{IsPolling, KeepsSame}
use Rattle.q_drain.specs.Progress.{LeavesLess, polls_left, work_left}
use Rattle.q_drain.specs.Served.{PollsOn}
use Rattle.q_drain.specs.Standing.{Outside}
use Rattle.q_drain.specs.Waits.{idle}
use Rattle.q_drain.specs.declared.poll.Served.{Served}
use Rattle.q_engine.proofs.Stopping.{ok_stop, same_stop, stop_later, stop_passed, stop_readable}
use Rattle.q_engine.specs.declared.stop.Stop.TheVariants as stops
use Rattle.q_engine.specs.Stands.{IsReady}
use Rattle.q_link.specs.WaitsLeft.{Spares}
use Rattle.q_drain.proofs.poll.poll_all.Goals as goal

pub polls-init : goal.polls-init
polls-init g c =
    let u = g.H.Host.view c.args.host.now in
    let lawful : TellsCrashes u = record { only = g.met.H.Host.only_now c.args.host.now; told = g.met.H.Host.told_stays c.args.host.now } in
    record {
      ready = c.requires.ready;
      timed = c.requires.timed;
      polling = c.requires.polling;
      same = λ idle. (idle, refl, refl);
      left = omega arith;
      spares = spares_same (waits_left (g.N.Hops.view c.args.hops.now) c.args.agent.now);
      once = λ over fresh. let never : true ≡ false = sym over ∙ fresh in cc;
      rests = refl;
      may = c.requires.serves;
      on = λ t w l a clock early fs s known sweeps h. served_none w l a (record { clock = clock; hops = g.N.Hops.view c.args.hops.now }) u c.args.begun c.args.agent.now early fs s lawful known sweeps h;
      disk_later = omega arith;
      tell_later = omega arith;
    }

pub poll_next-requires-clause-serves : goal.poll_next-requires-clause-serves
poll_next-requires-clause-serves g c t =
    let loop = c.polls in
    let (clock, m) = loop.invariant.may t in (
      clock,
      may_serve clock (g.H.Host.view c.args.host.now) (g.H.Host.view loop.host) (g.N.Hops.view c.args.hops.now) (g.N.Hops.view loop.hops) c.args.begun loop.served c.args.agent.now loop.agent m
          (loop.invariant.on t m.world m.ledger m.first clock m.early m.flights m.story m.known_is m.sweeps m.serving),
    )

pub returns-clause-ok : goal.returns-clause-ok
returns-clause-ok g c t = c.polls.invariant.on t

pub returns-in_err-next-clause-err : goal.returns-in_err-next-clause-err
returns-in_err-next-clause-err g c error is t w l a clock early fs s known sweeps h =
    let loop = c.polls in
    let view = g.H.Host.view in
    let hops = g.N.Hops.view in
    let m = loop.invariant.on t w l a clock early fs s known sweeps h in
    fails_then w l a (record { clock = clock; hops = hops loop.hops }) (record { clock = clock; hops = hops c.poll_next.new.hops }) (view c.args.host.now) (view loop.host) (view c.poll_next.new.host) loop.served loop.agent [] s m error
    (c.in_err-next.ensures.err error (same_stop c.from_residual.result c.in_err-next.field-0.0 (stops.Host error) c.from_residual.ensures.1 is) t w l a clock m.early m.flights m.story m.known_is m.sweeps m.serving)

pub polls-preserved : goal.polls-preserved
polls-preserved g c =
    let loop = c.polls in
    let view = g.H.Host.view in
    let hops = g.N.Hops.view in
    let first = waits_left (hops c.args.hops.now) c.args.agent.now in
    let last = waits_left (hops c.poll_next.new.hops) c.poll_next.new.agent in
    let busy = c.in-Some.next.busy in
    let polled = subst (λ (o : Option Served). IfSome o (λ s. Spares (idle s.busy) (waits_left (hops loop.hops) loop.agent) last)) c.in-Some.is c.in_ok-next.ensures.spares in
    let spares = spares_on (idle busy) first (waits_left (hops loop.hops) loop.agent) last loop.invariant.spares polled in
    record {
      ready = subst (λ (o : Option Served). IfSome o (λ s. IsReady s.engine)) c.in-Some.is c.in_ok-next.ensures.ready;
      timed = subst (λ (o : Option Served). IfSome o (λ s. s.engine.core.value.timed ≡ true)) c.in-Some.is c.in_ok-next.ensures.timed;
      polling = subst (λ (o : Option Served). IfSome o (λ s. IsPolling c.poll_next.new.agent (s.known + 1))) c.in-Some.is c.in_ok-next.ensures.polling;
      same = same_then c.args.begun.busy loop.served.busy c.in-Some.next.busy c.args.begun.known loop.served.known c.in-Some.next.known c.args.agent.now loop.agent c.poll_next.new.agent loop.invariant.same
          (subst (λ (o : Option Served). IfSome o (λ s. KeepsSame loop.served.busy s.busy loop.served.known s.known loop.agent c.poll_next.new.agent)) c.in-Some.is c.in_ok-next.ensures.same);
      left = left_then c.args.begun.busy loop.served.busy c.in-Some.next.busy _ _ _ loop.invariant.left
          (subst (λ (o : Option Served). IfSome o (λ s. LeavesLess loop.served.busy s.busy (work_left loop.served.known loop.agent) (work_left s.known c.poll_next.new.agent))) c.in-Some.is c.in_ok-next.ensures.left);
      spares = spares_less (idle busy) 0 first last (omega arith) spares;
      once = λ over fresh. spares;
      rests = c.in_ok-next.ensures.rests ∙ loop.invariant.rests;
      may = loop.invariant.may;
      on = λ t w l a clock early fs s known sweeps h.
          let m = loop.invariant.on t w l a clock early fs s known sweeps h in
          served_then w l a (record { clock = clock; hops = hops loop.hops }) (record { clock = clock; hops = hops c.poll_next.new.hops }) (view c.args.host.now) (view loop.host) (view c.poll_next.new.host) loop.served loop.agent [] s m c.in-Some.next c.poll_next.new.agent
          (subst (λ (o : Option Served). PollsOn loop.served o (view loop.host) (view c.poll_next.new.host) (hops loop.hops) (hops c.poll_next.new.hops) loop.agent c.poll_next.new.agent) c.in-Some.is (c.in_ok-next.ensures.ok t) w l a clock m.early m.flights m.story m.known_is m.sweeps m.serving);
      disk_later = omega (arith, loop.invariant.disk_later, c.in_ok-next.ensures.cause.disk_later);
      tell_later = omega (arith, loop.invariant.tell_later, c.in_ok-next.ensures.cause.tell_later);
    }

pub returns-in_default-clause-ok : goal.returns-in_default-clause-ok
returns-in_default-clause-ok g c t w l a clock early fs s known sweeps h =
    let loop = c.polls in
    let view = g.H.Host.view in
    let hops = g.N.Hops.view in
    let m = loop.invariant.on t w l a clock early fs s known sweeps h in
    filled_then w l a (record { clock = clock; hops = hops loop.hops }) (record { clock = clock; hops = hops c.poll_next.new.hops }) (view c.args.host.now) (view loop.host) (view c.poll_next.new.host) loop.served loop.agent [] s m
    (subst (λ (o : Option Served). PollsOn loop.served o (view loop.host) (view c.poll_next.new.host) (hops loop.hops) (hops c.poll_next.new.hops) loop.agent c.poll_next.new.agent) c.in_default.is (c.in_ok-next.ensures.ok t) w l a clock m.early m.flights m.story m.known_is m.sweeps m.serving)

pub returns-in_err-next-clause-cause : goal.returns-in_err-next-clause-cause
returns-in_err-next-clause-cause g c =
    let b = g.H.Host.faults c.polls.host in
    let before = c.polls.invariant in
    stop_later (g.H.Host.faults c.args.host.now) b (g.H.Host.faults c.poll_next.new.host) c.from_residual.result before.disk_later before.tell_later
    (stop_passed b (g.H.Host.faults c.poll_next.new.host) c.from_residual.result c.in_err-next.field-0.0 c.from_residual.ensures.1 c.in_err-next.ensures.cause)

pub returns-in_default-clause-cause : goal.returns-in_default-clause-cause
returns-in_default-clause-cause g c =
    let before = c.polls.invariant in
    let polled = c.in_ok-next.ensures.cause in
    ok_stop (g.H.Host.faults c.args.host.now) (g.H.Host.faults c.poll_next.new.host) _ (omega (arith, before.disk_later, polled.disk_later)) (omega (arith, before.tell_later, polled.tell_later))

pub returns-clause-cause : goal.returns-clause-cause
returns-clause-cause g c = ok_stop (g.H.Host.faults c.args.host.now) (g.H.Host.faults c.polls.host) _ c.polls.invariant.disk_later c.polls.invariant.tell_later

pub returns-in_err-next-clause-readable : goal.returns-in_err-next-clause-readable
returns-in_err-next-clause-readable g c = stop_readable g.H.Host.tells c.from_residual.result c.in_err-next.field-0.0 c.from_residual.ensures.1 c.in_err-next.ensures.readable

pub returns-clause-left : goal.returns-clause-left
returns-clause-left g c = c.polls.invariant.left

pub returns-clause-spares : goal.returns-clause-spares
returns-clause-spares g c = c.polls.invariant.once (sym c.sweep_over.ensures ∙ c.polls-test.false)

pub polls-smaller : goal.polls-smaller
polls-smaller g c = subst (λ (o : Option Served). IfSome o (λ s. polls_left s.known c.poll_next.new.agent < polls_left c.polls.served.known c.polls.agent)) c.in-Some.is c.in_ok-next.ensures.fewer
