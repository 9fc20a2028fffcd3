use Rattle.std.proofs.Common.{◌≡◌, ◌≢◌, ◌+◌, [], ap, arith, false, Option, refl, subst, sym, true, ℕ}
use Rattle.q_agent.specs.Sessions.{Sessions, is_sweep_over}
use Rattle.q_agent.specs.WaitsLeft.{waits_left}
use Rattle.q_books.specs.HostStands.{TellsCrashes}
use Rattle.q_drain.proofs.Causes.{same_rests}
use Rattle.q_drain.proofs.Exiting.{DrainsSo, counted_behind, drains_first, drains_more, ends_early, ends_full, ends_quiet, ends_unfinished, given_behind, none_behind, order_behind}
use Rattle.q_drain.proofs.Polls.{all_wait}
use Rattle.q_drain.proofs.Progressing.{left_behind}
use Rattle.q_drain.proofs.Sparing.{given_spares, more_spent, none_spent}
use Rattle.q_drain.specs.Drained.{CountsRests, RestsBehind}
use Rattle.q_drain.specs.Exits.{EndsUnfinished}
use Rattle.q_drain.specs.Polling.{AreInOrder, IsPolling, KeepsSame}
use Rattle.q_drain.specs.Progress.{LeavesLess, work_left}
use Rattle.q_drain.specs.Standing.{Outside}
use Rattle.q_drain.specs.Swept.{OfEngine, OfServed, SweepsTo}
use Rattle.q_drain.specs.Waits.{idle}
use Rattle.q_drain.specs.declared.poll.Served.{Served}
use Rattle.q_drain.specs.declared.sweep.Sweep.{Sweep}
use Rattle.q_engine.proofs.Stopping.{ok_stop, same_stop, stop_readable}
use Rattle.q_engine.specs.declared.stop.Stop.TheVariants as stops
use Rattle.q_engine.specs.Stands.{IsReady}
use Rattle.q_lines.proofs.LineParts.{rose_later}
use Rattle.q_link.specs.Records.{HopsView}
use Rattle.q_link.specs.WaitsLeft.{Spares}
use Rattle.q_drain.proofs.driver.make_sweeps.Goals as goal

pub sweeps-init : goal.sweeps-init
sweeps-init g c =
    let u = g.H.Host.view c.args.host.now in
    let lawful : TellsCrashes u = record { only = g.met.H.Host.only_now c.args.host.now; told = g.met.H.Host.told_stays c.args.host.now } in
    let a : Outside = record { clock = g.C.Clock.given c.args.clock.now; hops = g.N.Hops.view c.args.hops.now } in
    record {
      ready = c.requires.ready;
      timed = λ is. absurd cc;
      order = subst (λ (s : Sessions). AreInOrder s.listed 1) (sym c.new-agent.ensures) (record { rises = tt; positive = tt; below = tt });
      few = omega arith;
      counts = refl;
      spares = none_spent (g.N.Hops.view c.args.hops.now) c.new-agent.result c.new-agent.ensures;
      may = c.requires.stands;
      so = λ t w l stands start. subst (λ (s : Sessions). DrainsSo w l a a u u c.args.engine s.listed 0 true 0) (sym c.new-agent.ensures) (drains_first w l a u c.args.engine lawful stands start);
      disk_later = omega arith;
      tell_later = omega arith;
    }

pub make_sweep-requires-clause-timed : goal.make_sweep-requires-clause-timed
make_sweep-requires-clause-timed g c = c.sweeps.invariant.timed

pub make_sweep-requires-clause-ready : goal.make_sweep-requires-clause-ready
make_sweep-requires-clause-ready g c = c.sweeps.invariant.ready

pub make_sweep-requires-clause-order : goal.make_sweep-requires-clause-order
make_sweep-requires-clause-order g c = c.sweeps.invariant.order

pub make_sweep-requires-clause-stands : goal.make_sweep-requires-clause-stands
make_sweep-requires-clause-stands g c t =
    let loop = c.sweeps in
    let (w, l, stands, start) = loop.invariant.may t in
    let d = loop.invariant.so t w l stands start in
    (w, l, record { clock = g.C.Clock.given c.args.clock.now; hops = g.N.Hops.view c.args.hops.now }, d.story, d.between)

pub returns-in_err-served-clause-err : goal.returns-in_err-served-clause-err
returns-in_err-served-clause-err g c error is t w l stands start =
    let loop = c.sweeps in
    let view = g.H.Host.view in
    let a : Outside = record { clock = g.C.Clock.given c.args.clock.now; hops = g.N.Hops.view c.args.hops.now } in
    let z : Outside = record { clock = g.C.Clock.given loop.clock; hops = g.N.Hops.view loop.hops } in
    let y : Outside = record { clock = g.C.Clock.given c.make_sweep.new.clock; hops = g.N.Hops.view c.make_sweep.new.hops } in
    let d = loop.invariant.so t w l stands start in
    ends_early w l a z y (view c.args.host.now) (view loop.host) (view c.make_sweep.new.host) loop.served.engine loop.agent.listed loop.served.known loop.first loop.given d error
    (c.in_err-served.ensures.err error (same_stop c.from_residual.result c.in_err-served.field-0.0 (stops.Host error) c.from_residual.ensures.1 is) t w l a d.story d.between)

pub returns-in_err-served-clause-cause : goal.returns-in_err-served-clause-cause
returns-in_err-served-clause-cause g c =
    let later = c.sweeps.invariant in
    let cause = c.in_err-served.ensures.cause in
    let mid = g.H.Host.faults c.sweeps.host in
    record {
      disk_later = omega (arith, later.disk_later, cause.disk_later);
      tell_later = omega (arith, later.tell_later, cause.tell_later);
      disk = λ is. rose_later _ mid.disk _ later.disk_later (cause.disk (same_stop c.from_residual.result c.in_err-served.field-0.0 _ c.from_residual.ensures.1 is));
      tell = λ is. rose_later _ mid.tell _ later.tell_later (cause.tell (same_stop c.from_residual.result c.in_err-served.field-0.0 _ c.from_residual.ensures.1 is));
    }

pub returns-in-Idle-clause-ok : goal.returns-in-Idle-clause-ok
returns-in-Idle-clause-ok g c t w l stands start =
    let loop = c.sweeps in
    let view = g.H.Host.view in
    let a : Outside = record { clock = g.C.Clock.given c.args.clock.now; hops = g.N.Hops.view c.args.hops.now } in
    let z : Outside = record { clock = g.C.Clock.given loop.clock; hops = g.N.Hops.view loop.hops } in
    let y : Outside = record { clock = g.C.Clock.given c.make_sweep.new.clock; hops = g.N.Hops.view c.make_sweep.new.hops } in
    let d = loop.invariant.so t w l stands start in
    let swept = subst (λ (sweep : Sweep). SweepsTo (record { before = z; behind = y }) (view loop.host) (view c.make_sweep.new.host) loop.served.engine loop.agent.listed loop.served.known loop.first sweep c.make_sweep.new.agent) c.in-Idle.is (c.in_ok-served.ensures.ok t) in
    ends_quiet w l a z y (view c.args.host.now) (view loop.host) (view c.make_sweep.new.host) loop.served.engine loop.agent.listed loop.served.known loop.first loop.given d c.in-Idle.engine
    (swept w l a d.story d.between)

pub returns-in-Idle-clause-cause : goal.returns-in-Idle-clause-cause
returns-in-Idle-clause-cause g c =
    let later = c.sweeps.invariant in
    let cause = c.in_ok-served.ensures.cause in
    record {
      disk_later = omega (arith, later.disk_later, cause.disk_later);
      tell_later = omega (arith, later.tell_later, cause.tell_later);
      disk = λ is. cc;
      tell = λ is. cc;
    }

pub returns-in-Full-clause-ok : goal.returns-in-Full-clause-ok
returns-in-Full-clause-ok g c t w l stands start =
    let loop = c.sweeps in
    let view = g.H.Host.view in
    let a : Outside = record { clock = g.C.Clock.given c.args.clock.now; hops = g.N.Hops.view c.args.hops.now } in
    let z : Outside = record { clock = g.C.Clock.given loop.clock; hops = g.N.Hops.view loop.hops } in
    let y : Outside = record { clock = g.C.Clock.given c.make_sweep.new.clock; hops = g.N.Hops.view c.make_sweep.new.hops } in
    let d = loop.invariant.so t w l stands start in
    let swept = subst (λ (sweep : Sweep). SweepsTo (record { before = z; behind = y }) (view loop.host) (view c.make_sweep.new.host) loop.served.engine loop.agent.listed loop.served.known loop.first sweep c.make_sweep.new.agent) c.in-Full.is (c.in_ok-served.ensures.ok t) in
    ends_full w l a z y (view c.args.host.now) (view loop.host) (view c.make_sweep.new.host) loop.served.engine loop.agent.listed loop.served.known loop.first loop.given d
    (swept w l a d.story d.between)

pub returns-in-Full-clause-cause : goal.returns-in-Full-clause-cause
returns-in-Full-clause-cause g c =
    let later = c.sweeps.invariant in
    let cause = c.in_ok-served.ensures.cause in
    record {
      disk_later = omega (arith, later.disk_later, cause.disk_later);
      tell_later = omega (arith, later.tell_later, cause.tell_later);
      disk = λ is. cc;
      tell = λ is. cc;
    }

pub rest_behind-requires-clause-waits : goal.rest_behind-requires-clause-waits
rest_behind-requires-clause-waits g c =
    let served = c.in-Over.served in
    let agent = c.make_sweep.new.agent in
    let both = subst (λ (sweep : Sweep). OfServed sweep (λ (s : Served). IsPolling agent (s.known + 1) × (is_sweep_over agent ≡ true))) c.in-Over.is c.in_ok-served.ensures.polling in
    all_wait agent (served.known + 1) both.1 both.0

pub rest_behind-requires-clause-few : goal.rest_behind-requires-clause-few
rest_behind-requires-clause-few g c = c.sweeps.invariant.few

pub returns-in_default-clause-ok : goal.returns-in_default-clause-ok
returns-in_default-clause-ok g c t w l stands start =
    let loop = c.sweeps in
    let view = g.H.Host.view in
    let hops = g.N.Hops.view c.make_sweep.new.hops in
    let rested = g.N.Hops.view c.rest_behind.new.hops in
    let clock = g.C.Clock.given c.make_sweep.new.clock in
    let u = view c.args.host.now in
    let v = view loop.host in
    let x = view c.make_sweep.new.host in
    let served = c.in-Over.served in
    let agent = c.make_sweep.new.agent in
    let a : Outside = record { clock = g.C.Clock.given c.args.clock.now; hops = g.N.Hops.view c.args.hops.now } in
    let z : Outside = record { clock = g.C.Clock.given loop.clock; hops = g.N.Hops.view loop.hops } in
    let y : Outside = record { clock = clock; hops = hops } in
    let d = loop.invariant.so t w l stands start in
    let swept = subst (λ (sweep : Sweep). SweepsTo (record { before = z; behind = y }) v x loop.served.engine loop.agent.listed loop.served.known loop.first sweep agent) c.in-Over.is (c.in_ok-served.ensures.ok t) in
    let some = subst (λ (sweep : Sweep). OfServed sweep (λ (s : Served). s.busy ≡ false → agent.listed ≢ [])) c.in-Over.is c.in_ok-served.ensures.some in
    let keeps = subst (λ (sweep : Sweep). OfServed sweep (λ (s : Served). KeepsSame false s.busy loop.served.known s.known loop.agent agent)) c.in-Over.is c.in_ok-served.ensures.same in
    let behind = subst (λ (o : Option ℕ). RestsBehind served.busy loop.given c.args.rests agent c.rest_behind.new.agent hops rested o) c.in_default.is c.rest_behind.ensures in
    let (idle, all, kept, still) = none_behind served.busy loop.given c.args.rests agent c.rest_behind.new.agent hops rested behind in
    subst (λ n. EndsUnfinished w l (record { before = a; behind = record { clock = clock; hops = rested } }) u x n) all
    (subst (λ (h : HopsView). EndsUnfinished w l (record { before = a; behind = record { clock = clock; hops = h } }) u x loop.given) (sym still)
    (ends_unfinished w l a z y u v x loop.served.engine loop.agent.listed loop.served.known loop.first loop.given d served agent (swept w l a d.story d.between) idle (some idle) keeps))

pub returns-in_default-clause-unfinished : goal.returns-in_default-clause-unfinished
returns-in_default-clause-unfinished g c n is =
    let loop = c.sweeps in
    let first = g.N.Hops.view c.args.hops.now in
    let hops = g.N.Hops.view c.make_sweep.new.hops in
    let rested = g.N.Hops.view c.rest_behind.new.hops in
    let behind = subst (λ (o : Option ℕ). RestsBehind c.in-Over.served.busy loop.given c.args.rests c.make_sweep.new.agent c.rest_behind.new.agent hops rested o) c.in_default.is c.rest_behind.ensures in
    let (idle, all, kept, still) = none_behind c.in-Over.served.busy loop.given c.args.rests c.make_sweep.new.agent c.rest_behind.new.agent hops rested behind in
    let sweep = c.in_ok-served.ensures.rests in
    let same = ap (λ (h : HopsView). h.rests) still in
    let counts = loop.invariant.counts in
    (same_rests c.args.rests n is, omega (arith, all, sweep, same, counts))

pub returns-in_default-clause-few : goal.returns-in_default-clause-few
returns-in_default-clause-few g c n is most known =
    let loop = c.sweeps in
    let first = g.N.Hops.view c.args.hops.now in
    let hops = g.N.Hops.view c.make_sweep.new.hops in
    let rested = g.N.Hops.view c.rest_behind.new.hops in
    let served = c.in-Over.served in
    let agent = c.make_sweep.new.agent in
    let before = waits_left (g.N.Hops.view loop.hops) loop.agent in
    let behind = subst (λ (o : Option ℕ). RestsBehind served.busy loop.given c.args.rests agent c.rest_behind.new.agent hops rested o) c.in_default.is c.rest_behind.ensures in
    let (idles, all, kept, still) = none_behind served.busy loop.given c.args.rests agent c.rest_behind.new.agent hops rested behind in
    let swept = subst (λ (sweep : Sweep). OfServed sweep (λ (s : Served). Spares (idle s.busy) before (waits_left hops agent))) c.in-Over.is c.in_ok-served.ensures.spares in
    more_spent served.busy loop.given c.args.rests most first.waits_left before (waits_left hops agent) idles all known loop.invariant.spares swept

pub returns-in_default-clause-cause : goal.returns-in_default-clause-cause
returns-in_default-clause-cause g c =
    let later = c.sweeps.invariant in
    let cause = c.in_ok-served.ensures.cause in
    ok_stop (g.H.Host.faults c.args.host.now) (g.H.Host.faults c.make_sweep.new.host) _ (omega (arith, later.disk_later, cause.disk_later)) (omega (arith, later.tell_later, cause.tell_later))

pub sweeps-preserved : goal.sweeps-preserved
sweeps-preserved g c =
    let loop = c.sweeps in
    let view = g.H.Host.view in
    let hops = g.N.Hops.view c.make_sweep.new.hops in
    let rested = g.N.Hops.view c.rest_behind.new.hops in
    let clock = g.C.Clock.given c.make_sweep.new.clock in
    let u = view c.args.host.now in
    let v = view loop.host in
    let x = view c.make_sweep.new.host in
    let served = c.in-Over.served in
    let agent = c.make_sweep.new.agent in
    let new = c.rest_behind.new.agent in
    let more = c.in-Some.more in
    let a : Outside = record { clock = g.C.Clock.given c.args.clock.now; hops = g.N.Hops.view c.args.hops.now } in
    let z : Outside = record { clock = g.C.Clock.given loop.clock; hops = g.N.Hops.view loop.hops } in
    let y : Outside = record { clock = clock; hops = hops } in
    let both = subst (λ (sweep : Sweep). OfServed sweep (λ (s : Served). IsPolling agent (s.known + 1) × (is_sweep_over agent ≡ true))) c.in-Over.is c.in_ok-served.ensures.polling in
    let keeps = subst (λ (sweep : Sweep). OfServed sweep (λ (s : Served). KeepsSame false s.busy loop.served.known s.known loop.agent agent)) c.in-Over.is c.in_ok-served.ensures.same in
    let less = subst (λ (sweep : Sweep). OfServed sweep (λ (s : Served). LeavesLess false s.busy (work_left loop.served.known loop.agent) (work_left s.known agent))) c.in-Over.is c.in_ok-served.ensures.left in
    let some = subst (λ (sweep : Sweep). OfServed sweep (λ (s : Served). s.busy ≡ false → agent.listed ≢ [])) c.in-Over.is c.in_ok-served.ensures.some in
    let behind = subst (λ (o : Option ℕ). RestsBehind served.busy loop.given c.args.rests agent new hops rested o) c.in-Some.is c.rest_behind.ensures in
    let sweep = c.in_ok-served.ensures.rests in
    let swept_spares = subst (λ (sweep : Sweep). OfServed sweep (λ (s : Served). Spares (idle s.busy) (waits_left (g.N.Hops.view loop.hops) loop.agent) (waits_left hops agent))) c.in-Over.is c.in_ok-served.ensures.spares in
    let before = loop.invariant.counts in
    let counts : CountsRests (g.N.Hops.view c.args.hops.now) hops loop.given = omega (arith, sweep, before) in
    record {
      ready = subst (λ (sweep : Sweep). OfEngine sweep IsReady) c.in-Over.is c.in_ok-served.ensures.ready;
      timed = λ _. subst (λ (sweep : Sweep). OfEngine sweep (λ engine. engine.core.value.timed ≡ true)) c.in-Over.is c.in_ok-served.ensures.timed;
      order = order_behind served.busy loop.given c.args.rests more (served.known + 1) agent new hops rested both.0.order behind;
      few = given_behind served.busy loop.given c.args.rests more agent new hops rested loop.invariant.few behind;
      counts = counted_behind served.busy loop.given c.args.rests more agent new (g.N.Hops.view c.args.hops.now) hops rested counts behind;
      spares = given_spares served.busy loop.given c.args.rests more agent new hops rested (g.N.Hops.view c.args.hops.now).waits_left (waits_left (g.N.Hops.view loop.hops) loop.agent) loop.invariant.spares swept_spares behind;
      may = loop.invariant.may;
      so = λ t w l stands start.
          let d = loop.invariant.so t w l stands start in
          let swept = subst (λ (sweep : Sweep). SweepsTo (record { before = z; behind = y }) v x loop.served.engine loop.agent.listed loop.served.known loop.first sweep agent) c.in-Over.is (c.in_ok-served.ensures.ok t) in
          drains_more w l a z clock u v x hops rested loop.served.engine loop.agent.listed loop.served.known loop.first loop.given c.args.rests more served agent new served.busy d (swept w l a d.story d.between) both.1 some keeps less refl behind;
      disk_later = omega (arith, loop.invariant.disk_later, c.in_ok-served.ensures.cause.disk_later);
      tell_later = omega (arith, loop.invariant.tell_later, c.in_ok-served.ensures.cause.tell_later);
    }

pub returns-in_err-served-clause-readable : goal.returns-in_err-served-clause-readable
returns-in_err-served-clause-readable g c = stop_readable g.H.Host.tells c.from_residual.result c.in_err-served.field-0.0 c.from_residual.ensures.1 c.in_err-served.ensures.readable

pub sweeps-smaller : goal.sweeps-smaller
sweeps-smaller g c =
    let loop = c.sweeps in
    let served = c.in-Over.served in
    let agent = c.make_sweep.new.agent in
    let new = c.rest_behind.new.agent in
    let hops = g.N.Hops.view c.make_sweep.new.hops in
    let rested = g.N.Hops.view c.rest_behind.new.hops in
    let behind = subst (λ (o : Option ℕ). RestsBehind served.busy loop.given c.args.rests agent new hops rested o) c.in-Some.is c.rest_behind.ensures in
    left_behind served.busy loop.given c.args.rests c.in-Some.more served.known (work_left loop.served.known loop.agent) agent new hops rested loop.invariant.few
    (subst (λ (sweep : Sweep). OfServed sweep (λ (s : Served). LeavesLess false s.busy (work_left loop.served.known loop.agent) (work_left s.known agent))) c.in-Over.is c.in_ok-served.ensures.left)
    behind
