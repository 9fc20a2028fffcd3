use Rattle.std.proofs.Common.{◌+◌, ◌∙◌, ◌∷◌, [], Option, ap, arith, false, ltb-true, refl, subst, sym, true, ◌≡◌}
use Rattle.std.specs.Prelude.{IfSome, nat_lt}
use Rattle.q_agent.proofs.Sparing.{spares_on}
use Rattle.q_agent.specs.Sessions.{Sessions}
use Rattle.q_agent.specs.WaitsLeft.{waits_left}
use Rattle.q_books.specs.HostStands.{TellsCrashes}
use Rattle.q_drain.proofs.PollingAll.{fails_then, filled_then}
use Rattle.q_drain.proofs.Polls.{polling_anew, same_from, some_left}
use Rattle.q_drain.proofs.Progressing.{left_first, left_then}
use Rattle.q_drain.proofs.Sparing.{not_over}
use Rattle.q_drain.proofs.SweepsOn.{idles_on, none_heard, may_open, opening_given_up, served_heard, swept_then}
use Rattle.q_drain.specs.Opened.{FailsToOpenAll, MayOpenAll, OpensAll}
use Rattle.q_drain.specs.Polling.{IsPolling, KeepsSame}
use Rattle.q_drain.specs.Progress.{LeavesLess, OpensUpTo, work_left}
use Rattle.q_drain.specs.Served.{PollsOn}
use Rattle.q_drain.specs.Waits.{idle}
use Rattle.q_drain.specs.declared.poll.Served.{Served}
use Rattle.q_engine.proofs.Stopping.{disk_stopped, host_readable, same_stop, stop_later, stop_passed, stop_readable}
use Rattle.q_engine.specs.declared.stop.Stop.TheVariants as stops
use Rattle.q_link.specs.WaitsLeft.{Spares}
use Rattle.q_model.specs.Step.{after_all}
use Rattle.q_drain.proofs.sweep.make_sweep.Goals as goal

pub hear_clock-requires-clause-stands : goal.hear_clock-requires-clause-stands
hear_clock-requires-clause-stands g c t =
    let (w, l, a, s, b) = c.requires.stands t in
    (w, after_all w l s.told, b.between.2.stands)

pub returns-in_err-engine-clause-err : goal.returns-in_err-engine-clause-err
returns-in_err-engine-clause-err g c error is t w l a s b =
    c.in_err-engine.ensures.err error (same_stop c.from_residual.result c.in_err-engine.field-0.0 (stops.Host error) c.from_residual.ensures.1 is) t w l a (g.N.Hops.view c.args.hops.now) b.early b.flights c.args.agent.now.listed s b.begins b.between

pub open_started-requires-clause-polling : goal.open_started-requires-clause-polling
open_started-requires-clause-polling g c = subst (λ (n : Sessions). IsPolling n (c.args.known + 1)) (sym c.next_sweep.ensures) (polling_anew c.args.agent.now.listed (c.args.known + 1) (omega arith) c.requires.order)

pub open_started-requires-clause-stands : goal.open_started-requires-clause-stands
open_started-requires-clause-stands g c t =
    let (w, l, a, s, b) = c.requires.stands t in
    let u = g.H.Host.view c.args.host.now in
    let v = g.H.Host.view c.hear_clock.new.host in
    let old = g.C.Clock.given c.args.clock.now in
    let new = g.C.Clock.given c.hear_clock.new.clock in
    let hops = g.N.Hops.view c.args.hops.now in (
      new,
      subst (λ (n : Sessions). MayOpenAll new v hops c.in_ok-engine.engine n c.args.known) (sym c.next_sweep.ensures)
          (may_open w l a old new u v hops c.args.engine c.in_ok-engine.engine c.args.agent.now.listed c.args.known c.args.first s b (c.in_ok-engine.ensures.ok t)),
    )

pub returns-in_err-opened-clause-err : goal.returns-in_err-opened-clause-err
returns-in_err-opened-clause-err g c error is t w l a s b =
    let u = g.H.Host.view c.args.host.now in
    let v = g.H.Host.view c.hear_clock.new.host in
    let x = g.H.Host.view c.open_started.new.host in
    let old = g.C.Clock.given c.args.clock.now in
    let new = g.C.Clock.given c.hear_clock.new.clock in
    let hops = g.N.Hops.view c.args.hops.now in
    let next = g.N.Hops.view c.open_started.new.hops in
    let lawful : TellsCrashes v = record { only = g.met.H.Host.only_now c.hear_clock.new.host; told = g.met.H.Host.told_stays c.hear_clock.new.host } in
    opening_given_up w l a old new u v hops c.args.engine c.in_ok-engine.engine c.args.agent.now.listed c.args.known c.args.first s b (c.in_ok-engine.ensures.ok t) x next error lawful
    (subst (λ (n : Sessions). FailsToOpenAll c.in_ok-engine.engine v x hops next n c.args.known) c.next_sweep.ensures (c.in_err-opened.ensures.err t))

pub returns-then-is_empty-clause-ok : goal.returns-then-is_empty-clause-ok
returns-then-is_empty-clause-ok g c t w l a s b =
    let u = g.H.Host.view c.args.host.now in
    let v = g.H.Host.view c.hear_clock.new.host in
    let x = g.H.Host.view c.open_started.new.host in
    let old = g.C.Clock.given c.args.clock.now in
    let new = g.C.Clock.given c.hear_clock.new.clock in
    let hops = g.N.Hops.view c.args.hops.now in
    let next = g.N.Hops.view c.open_started.new.hops in
    let agent = c.open_started.new.agent in
    idles_on w l a (record { clock = new; hops = next }) u x c.in_ok-engine.engine c.args.known c.in_ok-opened.opened c.args.agent.now.listed agent s (c.is_empty.ensures.0 c.if-is_empty.true) (c.open_started.ensures.polled ∙ ap (λ (n : Sessions). n.polled) c.next_sweep.ensures)
    c.in_ok-opened.ensures.last.0
    (none_heard w l a old new u v hops c.args.engine c.in_ok-engine.engine c.args.agent.now.listed c.args.known c.args.first s b (c.in_ok-engine.ensures.ok t) x next agent c.in_ok-opened.opened
    (subst (λ (n : Sessions). OpensAll c.in_ok-engine.engine v x hops next n agent c.args.known c.in_ok-opened.opened) c.next_sweep.ensures (c.in_ok-opened.ensures.ok t)) (c.is_empty.ensures.0 c.if-is_empty.true))
    (subst (λ (n : Sessions). OpensUpTo c.args.known c.in_ok-opened.opened n agent) c.next_sweep.ensures c.in_ok-opened.ensures.opens)
    (served_heard w l a old new u v hops c.args.engine c.in_ok-engine.engine c.args.agent.now.listed c.args.known c.args.first s b (c.in_ok-engine.ensures.ok t) x next agent c.in_ok-opened.opened false (λ is. cc)
    (subst (λ (n : Sessions). OpensAll c.in_ok-engine.engine v x hops next n agent c.args.known c.in_ok-opened.opened) c.next_sweep.ensures (c.in_ok-opened.ensures.ok t)))

pub poll_all-requires-clause-serves : goal.poll_all-requires-clause-serves
poll_all-requires-clause-serves g c t =
    let (w, l, a, s, b) = c.requires.stands t in
    let u = g.H.Host.view c.args.host.now in
    let v = g.H.Host.view c.hear_clock.new.host in
    let x = g.H.Host.view c.open_started.new.host in
    let old = g.C.Clock.given c.args.clock.now in
    let new = g.C.Clock.given c.hear_clock.new.clock in
    let hops = g.N.Hops.view c.args.hops.now in
    let next = g.N.Hops.view c.open_started.new.hops in
    let agent = c.open_started.new.agent in
    let opened = c.in_ok-opened.opened in
    let m = served_heard w l a old new u v hops c.args.engine c.in_ok-engine.engine c.args.agent.now.listed c.args.known c.args.first s b (c.in_ok-engine.ensures.ok t) x next agent opened (nat_lt c.args.known opened) (λ is. ltb-true c.args.known opened is)
    (subst (λ (n : Sessions). OpensAll c.in_ok-engine.engine v x hops next n agent c.args.known opened) c.next_sweep.ensures (c.in_ok-opened.ensures.ok t)) in
    (new, record { world = w; ledger = l; first = a; early = m.served.early; flights = m.served.flights; story = m.served.story; known_is = m.served.known_is; sweeps = m.served.sweeps; serving = m.served.serving })

pub returns-in_err-served-clause-err : goal.returns-in_err-served-clause-err
returns-in_err-served-clause-err g c error is t w l a s b =
    let u = g.H.Host.view c.args.host.now in
    let v = g.H.Host.view c.hear_clock.new.host in
    let x = g.H.Host.view c.open_started.new.host in
    let old = g.C.Clock.given c.args.clock.now in
    let new = g.C.Clock.given c.hear_clock.new.clock in
    let hops = g.N.Hops.view c.args.hops.now in
    let next = g.N.Hops.view c.open_started.new.hops in
    let agent = c.open_started.new.agent in
    let opened = c.in_ok-opened.opened in
    let busy = nat_lt c.args.known opened in
    let m = served_heard w l a old new u v hops c.args.engine c.in_ok-engine.engine c.args.agent.now.listed c.args.known c.args.first s b (c.in_ok-engine.ensures.ok t) x next agent opened busy (λ is. ltb-true c.args.known opened is)
    (subst (λ (n : Sessions). OpensAll c.in_ok-engine.engine v x hops next n agent c.args.known opened) c.next_sweep.ensures (c.in_ok-opened.ensures.ok t)) in
    fails_then w l a (record { clock = new; hops = next }) (record { clock = new; hops = g.N.Hops.view c.poll_all.new.hops }) u x (g.H.Host.view c.poll_all.new.host) (record { engine = c.in_ok-engine.engine; known = opened; busy = busy }) agent (m.moment ∷ []) s m.served error
    (c.in_err-served.ensures.err error (same_stop c.from_residual-in_err-served.result c.in_err-served.field-0.0 (stops.Host error) c.from_residual-in_err-served.ensures.1 is) t w l a new m.served.early m.served.flights m.served.story m.served.known_is m.served.sweeps m.served.serving)

pub returns-in-Some-clause-ok : goal.returns-in-Some-clause-ok
returns-in-Some-clause-ok g c t w l a s b =
    let u = g.H.Host.view c.args.host.now in
    let v = g.H.Host.view c.hear_clock.new.host in
    let x = g.H.Host.view c.open_started.new.host in
    let y = g.H.Host.view c.poll_all.new.host in
    let old = g.C.Clock.given c.args.clock.now in
    let new = g.C.Clock.given c.hear_clock.new.clock in
    let hops = g.N.Hops.view c.args.hops.now in
    let next = g.N.Hops.view c.open_started.new.hops in
    let last = g.N.Hops.view c.poll_all.new.hops in
    let agent = c.open_started.new.agent in
    let opened = c.in_ok-opened.opened in
    let busy = nat_lt c.args.known opened in
    let begun : Served = record { engine = c.in_ok-engine.engine; known = opened; busy = busy } in
    let m = served_heard w l a old new u v hops c.args.engine c.in_ok-engine.engine c.args.agent.now.listed c.args.known c.args.first s b (c.in_ok-engine.ensures.ok t) x next agent opened busy (λ is. ltb-true c.args.known opened is)
    (subst (λ (n : Sessions). OpensAll c.in_ok-engine.engine v x hops next n agent c.args.known opened) c.next_sweep.ensures (c.in_ok-opened.ensures.ok t)) in
    swept_then w l a (record { clock = new; hops = next }) (record { clock = new; hops = last }) u x y begun agent s m c.in-Some.served c.poll_all.new.agent
    (subst (λ (o : Option Served). PollsOn begun o x y next last agent c.poll_all.new.agent) c.in-Some.is (c.in_ok-served.ensures.ok t) w l a new m.served.early m.served.flights m.served.story m.served.known_is m.served.sweeps m.served.serving)

pub returns-in-None-clause-ok : goal.returns-in-None-clause-ok
returns-in-None-clause-ok g c t w l a s b =
    let u = g.H.Host.view c.args.host.now in
    let v = g.H.Host.view c.hear_clock.new.host in
    let x = g.H.Host.view c.open_started.new.host in
    let y = g.H.Host.view c.poll_all.new.host in
    let old = g.C.Clock.given c.args.clock.now in
    let new = g.C.Clock.given c.hear_clock.new.clock in
    let hops = g.N.Hops.view c.args.hops.now in
    let next = g.N.Hops.view c.open_started.new.hops in
    let last = g.N.Hops.view c.poll_all.new.hops in
    let agent = c.open_started.new.agent in
    let opened = c.in_ok-opened.opened in
    let busy = nat_lt c.args.known opened in
    let begun : Served = record { engine = c.in_ok-engine.engine; known = opened; busy = busy } in
    let m = served_heard w l a old new u v hops c.args.engine c.in_ok-engine.engine c.args.agent.now.listed c.args.known c.args.first s b (c.in_ok-engine.ensures.ok t) x next agent opened busy (λ is. ltb-true c.args.known opened is)
    (subst (λ (n : Sessions). OpensAll c.in_ok-engine.engine v x hops next n agent c.args.known opened) c.next_sweep.ensures (c.in_ok-opened.ensures.ok t)) in
    filled_then w l a (record { clock = new; hops = next }) (record { clock = new; hops = last }) u x y begun agent (m.moment ∷ []) s m.served
    (subst (λ (o : Option Served). PollsOn begun o x y next last agent c.poll_all.new.agent) c.in-None.is (c.in_ok-served.ensures.ok t) w l a new m.served.early m.served.flights m.served.story m.served.known_is m.served.sweeps m.served.serving)

pub returns-in-Some-clause-cause : goal.returns-in-Some-clause-cause
returns-in-Some-clause-cause g c =
    let heard = c.in_ok-engine.ensures.cause in
    let opened = c.in_ok-opened.ensures.cause in
    let polled = c.in_ok-served.ensures.cause in
    record {
      disk_later = omega (arith, heard.disk_later, opened.disk_later, polled.disk_later);
      tell_later = omega (arith, heard.tell_later, opened.tell_later, polled.tell_later);
      disk = λ is. cc;
      tell = λ is. cc;
    }

pub returns-in-None-clause-cause : goal.returns-in-None-clause-cause
returns-in-None-clause-cause g c =
    let heard = c.in_ok-engine.ensures.cause in
    let opened = c.in_ok-opened.ensures.cause in
    let polled = c.in_ok-served.ensures.cause in
    record {
      disk_later = omega (arith, heard.disk_later, opened.disk_later, polled.disk_later);
      tell_later = omega (arith, heard.tell_later, opened.tell_later, polled.tell_later);
      disk = λ is. cc;
      tell = λ is. cc;
    }

pub returns-in_err-opened-clause-cause : goal.returns-in_err-opened-clause-cause
returns-in_err-opened-clause-cause g c =
    let b = g.H.Host.faults c.hear_clock.new.host in
    let heard = c.in_ok-engine.ensures.cause in
    stop_later (g.H.Host.faults c.args.host.now) b (g.H.Host.faults c.open_started.new.host) c.from_residual-in_err-opened.result heard.disk_later heard.tell_later
    (disk_stopped b (g.H.Host.faults c.open_started.new.host) c.from_residual-in_err-opened.result c.in_err-opened.field-0.0 c.from_residual-in_err-opened.ensures.1 c.in_err-opened.ensures.cause)

pub returns-then-is_empty-clause-cause : goal.returns-then-is_empty-clause-cause
returns-then-is_empty-clause-cause g c =
    let heard = c.in_ok-engine.ensures.cause in
    let opened = c.in_ok-opened.ensures.cause in
    record {
      disk_later = omega (arith, heard.disk_later, opened.disk_later);
      tell_later = omega (arith, heard.tell_later, opened.tell_later);
      disk = λ is. cc;
      tell = λ is. cc;
    }

pub returns-in_err-served-clause-cause : goal.returns-in_err-served-clause-cause
returns-in_err-served-clause-cause g c =
    let b = g.H.Host.faults c.open_started.new.host in
    let heard = c.in_ok-engine.ensures.cause in
    let opened = c.in_ok-opened.ensures.cause in
    stop_later (g.H.Host.faults c.args.host.now) b (g.H.Host.faults c.poll_all.new.host) c.from_residual-in_err-served.result
    (omega (arith, heard.disk_later, opened.disk_later)) (omega (arith, heard.tell_later, opened.tell_later))
    (stop_passed b (g.H.Host.faults c.poll_all.new.host) c.from_residual-in_err-served.result c.in_err-served.field-0.0 c.from_residual-in_err-served.ensures.1 c.in_err-served.ensures.cause)

pub returns-in_err-engine-clause-cause : goal.returns-in_err-engine-clause-cause
returns-in_err-engine-clause-cause g c =
    stop_passed (g.H.Host.faults c.args.host.now) (g.H.Host.faults c.hear_clock.new.host) c.from_residual.result c.in_err-engine.field-0.0 c.from_residual.ensures.1 c.in_err-engine.ensures.cause

pub returns-in_err-engine-clause-readable : goal.returns-in_err-engine-clause-readable
returns-in_err-engine-clause-readable g c = stop_readable g.H.Host.tells c.from_residual.result c.in_err-engine.field-0.0 c.from_residual.ensures.1 c.in_err-engine.ensures.readable

pub returns-in_err-opened-clause-readable : goal.returns-in_err-opened-clause-readable
returns-in_err-opened-clause-readable g c = host_readable g.H.Host.tells c.from_residual-in_err-opened.result c.in_err-opened.field-0.0 c.from_residual-in_err-opened.ensures.1

pub returns-in_err-served-clause-readable : goal.returns-in_err-served-clause-readable
returns-in_err-served-clause-readable g c = stop_readable g.H.Host.tells c.from_residual-in_err-served.result c.in_err-served.field-0.0 c.from_residual-in_err-served.ensures.1 c.in_err-served.ensures.readable

pub returns-in-Some-clause-left : goal.returns-in-Some-clause-left
returns-in-Some-clause-left g c =
    let known = c.args.known in
    let opened = c.in_ok-opened.opened in
    let agent = c.open_started.new.agent in
    let first = left_first known opened (record c.args.agent.now { polled = 0 }) agent c.in_ok-opened.ensures.last.0 c.in_ok-opened.ensures.fits
    (subst (λ (n : Sessions). OpensUpTo known opened n agent) c.next_sweep.ensures c.in_ok-opened.ensures.opens) in
    left_then false (nat_lt known opened) c.in-Some.served.busy _ _ _ first
    (subst (λ (o : Option Served). IfSome o (λ s. LeavesLess (nat_lt known opened) s.busy (work_left opened agent) (work_left s.known c.poll_all.new.agent))) c.in-Some.is c.in_ok-served.ensures.left)

pub returns-in-Some-clause-same : goal.returns-in-Some-clause-same
returns-in-Some-clause-same g c =
    let known = c.args.known in
    let opened = c.in_ok-opened.opened in
    let agent = c.open_started.new.agent in
    same_from (nat_lt known opened) c.in-Some.served.busy known opened c.in-Some.served.known (record c.args.agent.now { polled = 0 }) agent c.poll_all.new.agent refl c.in_ok-opened.ensures.last.0
    (subst (λ (n : Sessions). OpensUpTo known opened n agent) c.next_sweep.ensures c.in_ok-opened.ensures.opens)
    (subst (λ (o : Option Served). IfSome o (λ s. KeepsSame (nat_lt known opened) s.busy opened s.known agent c.poll_all.new.agent)) c.in-Some.is c.in_ok-served.ensures.same)

pub returns-in-Some-clause-some : goal.returns-in-Some-clause-some
returns-in-Some-clause-some g c =
    let opened = c.in_ok-opened.opened in
    let agent = c.open_started.new.agent in
    let kept = subst (λ (o : Option Served). IfSome o (λ s. KeepsSame (nat_lt c.args.known opened) s.busy opened s.known agent c.poll_all.new.agent)) c.in-Some.is c.in_ok-served.ensures.same in
    λ idle. some_left agent c.poll_all.new.agent (kept idle).2 (λ none. let bad : true ≡ false = sym (c.is_empty.ensures.1 none) ∙ c.if-is_empty.false in cc)

pub returns-in-Some-clause-spares : goal.returns-in-Some-clause-spares
returns-in-Some-clause-spares g c =
    let hops = g.N.Hops.view in
    let agent = c.open_started.new.agent in
    let first = waits_left (hops c.args.hops.now) c.args.agent.now in
    let mid = waits_left (hops c.open_started.new.hops) agent in
    let last = waits_left (hops c.poll_all.new.hops) c.poll_all.new.agent in
    let opened = subst (λ (n : Sessions). Spares 0 (waits_left (hops c.args.hops.now) n) mid) c.next_sweep.ensures c.in_ok-opened.ensures.spares in
    let begins = c.open_started.ensures.polled ∙ ap (λ (n : Sessions). n.polled) c.next_sweep.ensures in
    let fresh = not_over agent (c.in_ok-opened.opened + 1) begins (λ none. let bad : true ≡ false = sym (c.is_empty.ensures.1 none) ∙ c.if-is_empty.false in cc) c.in_ok-opened.ensures.last.1.order in
    spares_on (idle c.in-Some.served.busy) first mid last opened
    (subst (λ (o : Option Served). IfSome o (λ s. Spares (idle s.busy) mid last)) c.in-Some.is (c.in_ok-served.ensures.spares fresh))
