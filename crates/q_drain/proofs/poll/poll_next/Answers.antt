use Rattle.std.proofs.Common.{◌≡◌, ◌<◌, ◌≤◌, ◌∙◌, [], false, Option, arith, ap, refl, rules, subst, sym, true}
use Rattle.std.specs.List.{AllByRecursion}
use Rattle.std.specs.Prelude.{◌^◌}
use Rattle.q_agent.proofs.Sparing.{spares_same}
use Rattle.q_agent.specs.Answers.{IsStanding, PollsNext}
use Rattle.q_agent.specs.Sessions.{next_polled}
use Rattle.q_agent.specs.WaitsLeft.{polls_spent, waits_left}
use Rattle.q_agent.specs.declared.report.Report.{Report}
use Rattle.q_books.specs.HostStands.{TellsCrashes}
use Rattle.q_core.specs.Queries.{flight_in}
use Rattle.q_drain.proofs.Awaited.{not_some, refuses_none, reply_awaited}
use Rattle.q_drain.proofs.NextPolls.{begins_fewer, busy_keeps, ends_poll, fills_up, keeps_same, may_open_more, may_poll, poll_fails, polls_less, polls_on, reply_codes, reply_fits, report_fails, served_by_report, served_on, stands_still}
use Rattle.q_drain.proofs.Polls.{polled_over, polled_rests, some_unpolled}
use Rattle.q_drain.proofs.Progressing.{ends_one, leaves_less, leaves_same, opens_none, passes_one}
use Rattle.q_drain.proofs.Sparing.{on_spares, over_spares}
use Rattle.q_drain.specs.Progress.{LeavesLess, work_left}
use Rattle.q_link.specs.WaitsLeft.{Spares}
use Rattle.q_engine.proofs.Stopping.{disk_stopped, host_readable, ok_stop, same_stop, stop_later, stop_passed, stop_readable}
use Rattle.q_engine.specs.Refusals.{refused_reply}
use Rattle.q_engine.specs.declared.stop.Stop.TheVariants as stops
use Rattle.q_model.specs.Step.{after_all}
use Rattle.q_drain.proofs.poll.poll_next.Goals as goal

pub poll_next-requires : goal.poll_next-requires
poll_next-requires g c =
    record {
      there = λ t.
          let (clock, m) = c.requires.serves t in
          let v = g.H.Host.view c.args.host.now in
          subst (λ b. AllByRecursion (IsStanding b v) c.args.agent.now.listed) (sym t)
          (may_poll m.world m.ledger m.first (record { clock = clock; hops = g.N.Hops.view c.args.hops.now }) v c.args.served.engine c.args.agent.now m.early [] m.flights m.story m.serving);
    }

pub returns-in_err-report-clause-err : goal.returns-in_err-report-clause-err
returns-in_err-report-clause-err g c error is t w l a clock early fs s known sweeps h =
    let u = g.H.Host.view c.args.host.now in
    let lawful : TellsCrashes u = record { only = g.met.H.Host.only_now c.args.host.now; told = g.met.H.Host.told_stays c.args.host.now } in
    poll_fails w l a clock u (g.H.Host.view c.poll_next.new.host) (g.N.Hops.view c.args.hops.now) (g.N.Hops.view c.poll_next.new.hops) early fs s c.args.served.engine c.args.agent.now error lawful (c.poll_next.ensures.stays t) c.in_err-report.ensures.unrecorded h

pub returns-in_err-report-clause-rests : goal.returns-in_err-report-clause-rests
returns-in_err-report-clause-rests g c = ap (λ x. x.rests) c.in_err-report.ensures.unrecorded.1

pub returns-in_default-clause-ok : goal.returns-in_default-clause-ok
returns-in_default-clause-ok g c t w l a clock early fs s known sweeps h =
    let u = g.H.Host.view c.args.host.now in
    let hops = g.N.Hops.view c.args.hops.now in
    let next = g.N.Hops.view c.poll_next.new.hops in
    let agent = c.args.agent.now in
    let o = some_unpolled agent c.requires.over in
    let lawful : TellsCrashes u = record { only = g.met.H.Host.only_now c.args.host.now; told = g.met.H.Host.told_stays c.args.host.now } in
    served_on w l a clock u (g.H.Host.view c.poll_next.new.host) hops next early fs s c.args.served agent c.poll_next.new.self g.H.Host.tells c.now.result o.0 lawful (c.poll_next.ensures.stays t) o.1 t
    (subst (λ (r : Option Report). PollsNext g.H.Host.tells u c.now.result hops next (next_polled agent) r agent c.poll_next.new.self) c.in_default.is c.in_ok-report.ensures.ok) known sweeps h

pub returns-in_default-clause-polling : goal.returns-in_default-clause-polling
returns-in_default-clause-polling g c =
    let u = g.H.Host.view c.args.host.now in
    let hops = g.N.Hops.view c.args.hops.now in
    let next = g.N.Hops.view c.poll_next.new.hops in
    let agent = c.args.agent.now in
    let o = some_unpolled agent c.requires.over in
    polls_on _ g.H.Host.tells u c.now.result hops next agent c.poll_next.new.self o.0 o.1
    (subst (λ (r : Option Report). PollsNext g.H.Host.tells u c.now.result hops next (next_polled agent) r agent c.poll_next.new.self) c.in_default.is c.in_ok-report.ensures.ok) c.requires.polling

pub returns-in_default-clause-same : goal.returns-in_default-clause-same
returns-in_default-clause-same g c =
    let u = g.H.Host.view c.args.host.now in
    let hops = g.N.Hops.view c.args.hops.now in
    let next = g.N.Hops.view c.poll_next.new.hops in
    let agent = c.args.agent.now in
    let o = some_unpolled agent c.requires.over in
    keeps_same c.args.served.busy c.args.served.known g.H.Host.tells u c.now.result hops next agent c.poll_next.new.self o.0 o.1
    (subst (λ (r : Option Report). PollsNext g.H.Host.tells u c.now.result hops next (next_polled agent) r agent c.poll_next.new.self) c.in_default.is c.in_ok-report.ensures.ok)

pub returns-clause-ok : goal.returns-clause-ok
returns-clause-ok g c t w l a clock early fs s known sweeps h =
    let u = g.H.Host.view c.args.host.now in
    let v = g.H.Host.view c.poll_next.new.host in
    let hops = g.N.Hops.view c.args.hops.now in
    let next = g.N.Hops.view c.poll_next.new.hops in
    let agent = c.args.agent.now in
    let engine = c.args.served.engine in
    let o = some_unpolled agent c.requires.over in
    let lawful : TellsCrashes u = record { only = g.met.H.Host.only_now c.args.host.now; told = g.met.H.Host.told_stays c.args.host.now } in
    let was_polled = subst (λ (r : Option Report). PollsNext g.H.Host.tells u c.now.result hops next (next_polled agent) r agent c.poll_next.new.self) c.in-Some.is c.in_ok-report.ensures.ok in
    let made = (polled_over g.H.Host.tells u c.now.result hops next agent c.poll_next.new.self o.0 c.in-Some.report o.1 was_polled).1 in
    let e = ends_poll w l a clock u v hops next engine agent c.poll_next.new.self early fs s g.H.Host.tells c.now.result o.0 c.in-Some.report lawful (c.poll_next.ensures.stays t) o.1 t c.now.ensures.ledger was_polled h in
    let below : c.last_number.result < 2 ^ 48 = search rules in
    let few = begins_fewer w l a (record { clock = clock; hops = hops }) u engine agent early [] fs s c.last_number.result c.last_number.ensures below h in
    served_by_report w l a clock u v hops next engine agent early fs s o.0 c.in-Some.report e few g.H.Host.view c.poll_next.new.host c.hear_report.new.host refl c.poll_next.new.self made (g.N.Hops.view c.hear_report.new.hops) c.hear_report.new.agent c.args.served.known c.in_ok-next.next c.args.served.busy known sweeps
    c.in_ok-next.ensures.busy (c.in_ok-next.ensures.ok t)

pub returns-clause-polling : goal.returns-clause-polling
returns-clause-polling g c = c.in_ok-next.ensures.polling

pub returns-clause-same : goal.returns-clause-same
returns-clause-same g c = busy_keeps c.args.served.busy c.in_ok-next.next.busy c.args.served.known c.in_ok-next.next.known c.args.agent.now c.hear_report.new.agent c.in_ok-next.ensures.busy

pub returns-then-last_number-ge-MOST_DELIVERIES-clause-ok : goal.returns-then-last_number-ge-MOST_DELIVERIES-clause-ok
returns-then-last_number-ge-MOST_DELIVERIES-clause-ok g c t w l a clock early fs s known sweeps h =
    let u = g.H.Host.view c.args.host.now in
    let v = g.H.Host.view c.poll_next.new.host in
    let hops = g.N.Hops.view c.args.hops.now in
    let next = g.N.Hops.view c.poll_next.new.hops in
    let agent = c.args.agent.now in
    let engine = c.args.served.engine in
    let o = some_unpolled agent c.requires.over in
    let lawful : TellsCrashes u = record { only = g.met.H.Host.only_now c.args.host.now; told = g.met.H.Host.told_stays c.args.host.now } in
    let was_polled = subst (λ (r : Option Report). PollsNext g.H.Host.tells u c.now.result hops next (next_polled agent) r agent c.poll_next.new.self) c.in-Some.is c.in_ok-report.ensures.ok in
    let e = ends_poll w l a clock u v hops next engine agent c.poll_next.new.self early fs s g.H.Host.tells c.now.result o.0 c.in-Some.report lawful (c.poll_next.ensures.stays t) o.1 t c.now.ensures.ledger was_polled h in
    let full : 2 ^ 48 ≤ c.last_number.result = search rules in
    fills_up w l a clock u v hops next engine agent early fs s o.0 c.in-Some.report e c.last_number.result c.last_number.ensures full

pub returns-in_err-report-clause-cause : goal.returns-in_err-report-clause-cause
returns-in_err-report-clause-cause g c = disk_stopped (g.H.Host.faults c.args.host.now) (g.H.Host.faults c.poll_next.new.host) c.from_residual.result c.in_err-report.field-0.0 c.from_residual.ensures.1 c.in_err-report.ensures.cause

pub returns-then-last_number-ge-MOST_DELIVERIES-clause-rests : goal.returns-then-last_number-ge-MOST_DELIVERIES-clause-rests
returns-then-last_number-ge-MOST_DELIVERIES-clause-rests g c =
    polled_rests g.H.Host.tells (g.H.Host.view c.args.host.now) c.now.result (g.N.Hops.view c.args.hops.now) (g.N.Hops.view c.poll_next.new.hops) (next_polled c.args.agent.now) c.in_ok-report.field-0 c.args.agent.now c.poll_next.new.self c.in_ok-report.ensures.ok

pub returns-clause-rests : goal.returns-clause-rests
returns-clause-rests g c = c.hear_report.ensures.rests
    ∙ polled_rests g.H.Host.tells (g.H.Host.view c.args.host.now) c.now.result (g.N.Hops.view c.args.hops.now) (g.N.Hops.view c.poll_next.new.hops) (next_polled c.args.agent.now) c.in_ok-report.field-0 c.args.agent.now c.poll_next.new.self c.in_ok-report.ensures.ok

pub returns-clause-cause : goal.returns-clause-cause
returns-clause-cause g c =
    let was_polled = c.in_ok-report.ensures.cause in
    let heard = c.in_ok-next.ensures.cause in
    ok_stop (g.H.Host.faults c.args.host.now) (g.H.Host.faults c.hear_report.new.host) _
    (omega (arith, was_polled.disk_later, heard.disk_later)) (omega (arith, was_polled.tell_later, heard.tell_later))

pub returns-in_default-clause-rests : goal.returns-in_default-clause-rests
returns-in_default-clause-rests g c =
    polled_rests g.H.Host.tells (g.H.Host.view c.args.host.now) c.now.result (g.N.Hops.view c.args.hops.now) (g.N.Hops.view c.poll_next.new.hops) (next_polled c.args.agent.now) c.in_ok-report.field-0 c.args.agent.now c.poll_next.new.self c.in_ok-report.ensures.ok

pub returns-in_default-clause-cause : goal.returns-in_default-clause-cause
returns-in_default-clause-cause g c =
    let was_polled = c.in_ok-report.ensures.cause in
    ok_stop (g.H.Host.faults c.args.host.now) (g.H.Host.faults c.poll_next.new.host) _ was_polled.disk_later was_polled.tell_later

pub returns-then-last_number-ge-MOST_DELIVERIES-clause-cause : goal.returns-then-last_number-ge-MOST_DELIVERIES-clause-cause
returns-then-last_number-ge-MOST_DELIVERIES-clause-cause g c =
    let was_polled = c.in_ok-report.ensures.cause in
    ok_stop (g.H.Host.faults c.args.host.now) (g.H.Host.faults c.poll_next.new.host) _ was_polled.disk_later was_polled.tell_later

pub hear_report-requires-clause-fits : goal.hear_report-requires-clause-fits
hear_report-requires-clause-fits g c =
    let u = g.H.Host.view c.args.host.now in
    let hops = g.N.Hops.view c.args.hops.now in
    let next = g.N.Hops.view c.poll_next.new.hops in
    let agent = c.args.agent.now in
    let o = some_unpolled agent c.requires.over in
    reply_fits g.H.Host.tells u c.now.result hops next agent c.poll_next.new.self o.0 c.in-Some.report o.1
    (subst (λ (r : Option Report). PollsNext g.H.Host.tells u c.now.result hops next (next_polled agent) r agent c.poll_next.new.self) c.in-Some.is c.in_ok-report.ensures.ok)

pub hear_report-requires-clause-codes : goal.hear_report-requires-clause-codes
hear_report-requires-clause-codes g c =
    let u = g.H.Host.view c.args.host.now in
    let hops = g.N.Hops.view c.args.hops.now in
    let next = g.N.Hops.view c.poll_next.new.hops in
    let agent = c.args.agent.now in
    let o = some_unpolled agent c.requires.over in
    reply_codes g.H.Host.tells u c.now.result hops next agent c.poll_next.new.self o.0 c.in-Some.report o.1
    (subst (λ (r : Option Report). PollsNext g.H.Host.tells u c.now.result hops next (next_polled agent) r agent c.poll_next.new.self) c.in-Some.is c.in_ok-report.ensures.ok)

pub hear_report-requires-clause-stands : goal.hear_report-requires-clause-stands
hear_report-requires-clause-stands g c t =
    let (clock, m) = c.requires.serves t in
    let u = g.H.Host.view c.args.host.now in
    let v = g.H.Host.view c.poll_next.new.host in
    let hops = g.N.Hops.view c.args.hops.now in
    let next = g.N.Hops.view c.poll_next.new.hops in
    let agent = c.args.agent.now in
    let engine = c.args.served.engine in
    let o = some_unpolled agent c.requires.over in
    let lawful : TellsCrashes u = record { only = g.met.H.Host.only_now c.args.host.now; told = g.met.H.Host.told_stays c.args.host.now } in
    let was_polled = subst (λ (r : Option Report). PollsNext g.H.Host.tells u c.now.result hops next (next_polled agent) r agent c.poll_next.new.self) c.in-Some.is c.in_ok-report.ensures.ok in
    let e = ends_poll m.world m.ledger m.first clock u v hops next engine agent c.poll_next.new.self m.early m.flights m.story g.H.Host.tells c.now.result o.0 c.in-Some.report lawful (c.poll_next.ensures.stays t) o.1 t c.now.ensures.ledger was_polled m.serving in
    (m.world, after_all m.world m.ledger (m.story).told, stands_still m.world m.ledger m.first clock u v hops next engine agent m.early m.flights m.story o.0 c.in-Some.report e)

pub hear_report-requires-clause-polling : goal.hear_report-requires-clause-polling
hear_report-requires-clause-polling g c =
    let u = g.H.Host.view c.args.host.now in
    let hops = g.N.Hops.view c.args.hops.now in
    let next = g.N.Hops.view c.poll_next.new.hops in
    let agent = c.args.agent.now in
    let o = some_unpolled agent c.requires.over in
    polls_less _ g.H.Host.tells u c.now.result hops next agent c.poll_next.new.self o.0 c.in-Some.report o.1
    (subst (λ (r : Option Report). PollsNext g.H.Host.tells u c.now.result hops next (next_polled agent) r agent c.poll_next.new.self) c.in-Some.is c.in_ok-report.ensures.ok) c.requires.polling

pub hear_report-requires-clause-opens : goal.hear_report-requires-clause-opens
hear_report-requires-clause-opens g c t =
    let (clock, m) = c.requires.serves t in
    let u = g.H.Host.view c.args.host.now in
    let v = g.H.Host.view c.poll_next.new.host in
    let hops = g.N.Hops.view c.args.hops.now in
    let next = g.N.Hops.view c.poll_next.new.hops in
    let agent = c.args.agent.now in
    let engine = c.args.served.engine in
    let o = some_unpolled agent c.requires.over in
    let lawful : TellsCrashes u = record { only = g.met.H.Host.only_now c.args.host.now; told = g.met.H.Host.told_stays c.args.host.now } in
    let was_polled = subst (λ (r : Option Report). PollsNext g.H.Host.tells u c.now.result hops next (next_polled agent) r agent c.poll_next.new.self) c.in-Some.is c.in_ok-report.ensures.ok in
    let made = (polled_over g.H.Host.tells u c.now.result hops next agent c.poll_next.new.self o.0 c.in-Some.report o.1 was_polled).1 in
    let e = ends_poll m.world m.ledger m.first clock u v hops next engine agent c.poll_next.new.self m.early m.flights m.story g.H.Host.tells c.now.result o.0 c.in-Some.report lawful (c.poll_next.ensures.stays t) o.1 t c.now.ensures.ledger was_polled m.serving in
    let below : c.last_number.result < 2 ^ 48 = search rules in
    let few = begins_fewer m.world m.ledger m.first (record { clock = clock; hops = hops }) u engine agent m.early [] m.flights m.story c.last_number.result c.last_number.ensures below m.serving in
    (clock, λ new x replies. may_open_more m.world m.ledger m.first clock u v hops next engine agent m.early m.flights m.story o.0 c.in-Some.report e few (g.H.Host.view x) new c.poll_next.new.self made replies c.args.served.known m.known_is)

pub returns-in_err-next-clause-err : goal.returns-in_err-next-clause-err
returns-in_err-next-clause-err g c error is t w l a clock early fs s known sweeps h =
    let u = g.H.Host.view c.args.host.now in
    let v = g.H.Host.view c.poll_next.new.host in
    let hops = g.N.Hops.view c.args.hops.now in
    let next = g.N.Hops.view c.poll_next.new.hops in
    let agent = c.args.agent.now in
    let engine = c.args.served.engine in
    let o = some_unpolled agent c.requires.over in
    let lawful : TellsCrashes u = record { only = g.met.H.Host.only_now c.args.host.now; told = g.met.H.Host.told_stays c.args.host.now } in
    let was_polled = subst (λ (r : Option Report). PollsNext g.H.Host.tells u c.now.result hops next (next_polled agent) r agent c.poll_next.new.self) c.in-Some.is c.in_ok-report.ensures.ok in
    let made = (polled_over g.H.Host.tells u c.now.result hops next agent c.poll_next.new.self o.0 c.in-Some.report o.1 was_polled).1 in
    let e = ends_poll w l a clock u v hops next engine agent c.poll_next.new.self early fs s g.H.Host.tells c.now.result o.0 c.in-Some.report lawful (c.poll_next.ensures.stays t) o.1 t c.now.ensures.ledger was_polled h in
    let below : c.last_number.result < 2 ^ 48 = search rules in
    let few = begins_fewer w l a (record { clock = clock; hops = hops }) u engine agent early [] fs s c.last_number.result c.last_number.ensures below h in
    report_fails w l a clock u v hops next engine agent early fs s o.0 c.in-Some.report e few g.H.Host.view c.poll_next.new.host c.hear_report.new.host refl c.poll_next.new.self made (g.N.Hops.view c.hear_report.new.hops) c.args.served.known error known
    (c.in_err-next.ensures.err error (same_stop c.from_residual-in_err-next.result c.in_err-next.field-0.0 (stops.Host error) c.from_residual-in_err-next.ensures.1 is) t)

pub returns-in_err-next-clause-rests : goal.returns-in_err-next-clause-rests
returns-in_err-next-clause-rests g c = c.hear_report.ensures.rests
    ∙ polled_rests g.H.Host.tells (g.H.Host.view c.args.host.now) c.now.result (g.N.Hops.view c.args.hops.now) (g.N.Hops.view c.poll_next.new.hops) (next_polled c.args.agent.now) c.in_ok-report.field-0 c.args.agent.now c.poll_next.new.self c.in_ok-report.ensures.ok

pub returns-in_err-next-clause-cause : goal.returns-in_err-next-clause-cause
returns-in_err-next-clause-cause g c =
    let b = g.H.Host.faults c.poll_next.new.host in
    let was_polled = c.in_ok-report.ensures.cause in
    stop_later (g.H.Host.faults c.args.host.now) b (g.H.Host.faults c.hear_report.new.host) c.from_residual-in_err-next.result was_polled.disk_later was_polled.tell_later
    (stop_passed b (g.H.Host.faults c.hear_report.new.host) c.from_residual-in_err-next.result c.in_err-next.field-0.0 c.from_residual-in_err-next.ensures.1 c.in_err-next.ensures.cause)

pub returns-in_err-report-clause-readable : goal.returns-in_err-report-clause-readable
returns-in_err-report-clause-readable g c = host_readable g.H.Host.tells c.from_residual.result c.in_err-report.field-0.0 c.from_residual.ensures.1

pub returns-in_err-next-clause-readable : goal.returns-in_err-next-clause-readable
returns-in_err-next-clause-readable g c = stop_readable g.H.Host.tells c.from_residual-in_err-next.result c.in_err-next.field-0.0 c.from_residual-in_err-next.ensures.1 c.in_err-next.ensures.readable

pub returns-in_default-clause-fewer : goal.returns-in_default-clause-fewer
returns-in_default-clause-fewer g c =
    let u = g.H.Host.view c.args.host.now in
    let hops = g.N.Hops.view c.args.hops.now in
    let next = g.N.Hops.view c.poll_next.new.hops in
    let agent = c.args.agent.now in
    let o = some_unpolled agent c.requires.over in
    passes_one g.H.Host.tells u c.now.result hops next agent c.poll_next.new.self o.0 o.1 c.args.served.known
    (subst (λ (r : Option Report). PollsNext g.H.Host.tells u c.now.result hops next (next_polled agent) r agent c.poll_next.new.self) c.in_default.is c.in_ok-report.ensures.ok)

pub returns-in_default-clause-left : goal.returns-in_default-clause-left
returns-in_default-clause-left g c =
    let u = g.H.Host.view c.args.host.now in
    let hops = g.N.Hops.view c.args.hops.now in
    let next = g.N.Hops.view c.poll_next.new.hops in
    let agent = c.args.agent.now in
    let o = some_unpolled agent c.requires.over in
    leaves_same g.H.Host.tells u c.now.result hops next agent c.poll_next.new.self o.0 o.1 c.args.served.known c.args.served.busy
    (subst (λ (r : Option Report). PollsNext g.H.Host.tells u c.now.result hops next (next_polled agent) r agent c.poll_next.new.self) c.in_default.is c.in_ok-report.ensures.ok)

pub returns-clause-fewer : goal.returns-clause-fewer
returns-clause-fewer g c =
    let u = g.H.Host.view c.args.host.now in
    let hops = g.N.Hops.view c.args.hops.now in
    let next = g.N.Hops.view c.poll_next.new.hops in
    let agent = c.args.agent.now in
    let o = some_unpolled agent c.requires.over in
    let opened = c.in_ok-next.ensures.opens in
    ends_one g.H.Host.tells u c.now.result hops next agent c.poll_next.new.self c.hear_report.new.agent o.0 c.in-Some.report o.1 c.args.served.known c.in_ok-next.next.known
    (subst (λ (r : Option Report). PollsNext g.H.Host.tells u c.now.result hops next (next_polled agent) r agent c.poll_next.new.self) c.in-Some.is c.in_ok-report.ensures.ok) opened.0 c.in_ok-next.ensures.fits opened.1

pub returns-clause-left : goal.returns-clause-left
returns-clause-left g c =
    let u = g.H.Host.view c.args.host.now in
    let hops = g.N.Hops.view c.args.hops.now in
    let next = g.N.Hops.view c.poll_next.new.hops in
    let agent = c.args.agent.now in
    let o = some_unpolled agent c.requires.over in
    let opened = c.in_ok-next.ensures.opens in
    subst (λ busy. LeavesLess c.args.served.busy busy (work_left c.args.served.known agent) (work_left c.in_ok-next.next.known c.hear_report.new.agent)) (sym c.in_ok-next.ensures.busy)
    (leaves_less g.H.Host.tells u c.now.result hops next agent c.poll_next.new.self c.hear_report.new.agent o.0 c.in-Some.report o.1 c.args.served.known c.in_ok-next.next.known
    (subst (λ (r : Option Report). PollsNext g.H.Host.tells u c.now.result hops next (next_polled agent) r agent c.poll_next.new.self) c.in-Some.is c.in_ok-report.ensures.ok) opened.0 c.in_ok-next.ensures.fits opened.1 c.args.served.busy)

pub returns-in_default-clause-spares : goal.returns-in_default-clause-spares
returns-in_default-clause-spares g c =
    let agent = c.args.agent.now in
    let o = some_unpolled agent c.requires.over in
    let first = waits_left (g.N.Hops.view c.args.hops.now) agent in
    let last = waits_left (g.N.Hops.view c.poll_next.new.hops) c.poll_next.new.self in
    on_spares agent o.0 o.1 first last c.args.served.busy
    (subst (λ (r : Option Report). Spares (polls_spent (next_polled agent) r) first last) c.in_default.is c.in_ok-report.ensures.spares)

pub returns-clause-spares : goal.returns-clause-spares
returns-clause-spares g c =
    let agent = c.args.agent.now in
    let o = some_unpolled agent c.requires.over in
    let first = waits_left (g.N.Hops.view c.args.hops.now) agent in
    let mid = waits_left (g.N.Hops.view c.poll_next.new.hops) c.poll_next.new.self in
    let last = waits_left (g.N.Hops.view c.hear_report.new.hops) c.hear_report.new.agent in
    over_spares agent o.0 o.1 first mid c.in-Some.report c.in_ok-next.next.busy last c.in_ok-next.ensures.busy
    (subst (λ (r : Option Report). Spares (polls_spent (next_polled agent) r) first mid) c.in-Some.is c.in_ok-report.ensures.spares) c.in_ok-next.ensures.spares

-- ---- a report that the engine doesn't await

pub returns-then-refuses_reply-clause-ok : goal.returns-then-refuses_reply-clause-ok
returns-then-refuses_reply-clause-ok g c t w l a clock early fs s known sweeps h =
    let u = g.H.Host.view c.args.host.now in
    let hops = g.N.Hops.view c.args.hops.now in
    let next = g.N.Hops.view c.poll_next.new.hops in
    let agent = c.args.agent.now in
    let engine = c.args.served.engine in
    let r = c.in-Some.report in
    let o = some_unpolled agent c.requires.over in
    let was_polled = subst (λ (r : Option Report). PollsNext g.H.Host.tells u c.now.result hops next (next_polled agent) r agent c.poll_next.new.self) c.in-Some.is c.in_ok-report.ensures.ok in
    let one = polled_over g.H.Host.tells u c.now.result hops next agent c.poll_next.new.self o.0 r o.1 was_polled in
    let none = reply_awaited w l a (record { clock = clock; hops = hops }) u engine agent early fs s o.0 r h o.1 (one.0).number (one.0).counts in
    let never = refuses_none engine r.number r.outcomes c.refuses_reply.result w (after_all w l s.told) h.under_way.stands.core h.under_way.stands.counts c.refuses_reply.ensures.ledger none in
    let bad : true ≡ false = sym c.if-refuses_reply.true ∙ never in
    absurd cc

pub returns-then-refuses_reply-clause-polling : goal.returns-then-refuses_reply-clause-polling
returns-then-refuses_reply-clause-polling g c =
    let u = g.H.Host.view c.args.host.now in
    let hops = g.N.Hops.view c.args.hops.now in
    let next = g.N.Hops.view c.poll_next.new.hops in
    let agent = c.args.agent.now in
    let o = some_unpolled agent c.requires.over in
    polls_less _ g.H.Host.tells u c.now.result hops next agent c.poll_next.new.self o.0 c.in-Some.report o.1
    (subst (λ (r : Option Report). PollsNext g.H.Host.tells u c.now.result hops next (next_polled agent) r agent c.poll_next.new.self) c.in-Some.is c.in_ok-report.ensures.ok) c.requires.polling

pub returns-then-refuses_reply-clause-same : goal.returns-then-refuses_reply-clause-same
returns-then-refuses_reply-clause-same g c = busy_keeps c.args.served.busy true c.args.served.known c.args.served.known c.args.agent.now c.poll_next.new.self refl

pub returns-then-refuses_reply-clause-fewer : goal.returns-then-refuses_reply-clause-fewer
returns-then-refuses_reply-clause-fewer g c =
    let u = g.H.Host.view c.args.host.now in
    let hops = g.N.Hops.view c.args.hops.now in
    let next = g.N.Hops.view c.poll_next.new.hops in
    let agent = c.args.agent.now in
    let known = c.args.served.known in
    let within : known < 2 ^ 64 = search rules in
    let o = some_unpolled agent c.requires.over in
    ends_one g.H.Host.tells u c.now.result hops next agent c.poll_next.new.self c.poll_next.new.self o.0 c.in-Some.report o.1 known known
    (subst (λ (r : Option Report). PollsNext g.H.Host.tells u c.now.result hops next (next_polled agent) r agent c.poll_next.new.self) c.in-Some.is c.in_ok-report.ensures.ok) (omega arith) within (opens_none known c.poll_next.new.self)

pub returns-then-refuses_reply-clause-left : goal.returns-then-refuses_reply-clause-left
returns-then-refuses_reply-clause-left g c =
    let u = g.H.Host.view c.args.host.now in
    let hops = g.N.Hops.view c.args.hops.now in
    let next = g.N.Hops.view c.poll_next.new.hops in
    let agent = c.args.agent.now in
    let known = c.args.served.known in
    let within : known < 2 ^ 64 = search rules in
    let o = some_unpolled agent c.requires.over in
    leaves_less g.H.Host.tells u c.now.result hops next agent c.poll_next.new.self c.poll_next.new.self o.0 c.in-Some.report o.1 known known
    (subst (λ (r : Option Report). PollsNext g.H.Host.tells u c.now.result hops next (next_polled agent) r agent c.poll_next.new.self) c.in-Some.is c.in_ok-report.ensures.ok) (omega arith) within (opens_none known c.poll_next.new.self) c.args.served.busy

pub returns-then-refuses_reply-clause-rests : goal.returns-then-refuses_reply-clause-rests
returns-then-refuses_reply-clause-rests g c =
    polled_rests g.H.Host.tells (g.H.Host.view c.args.host.now) c.now.result (g.N.Hops.view c.args.hops.now) (g.N.Hops.view c.poll_next.new.hops) (next_polled c.args.agent.now) c.in_ok-report.field-0 c.args.agent.now c.poll_next.new.self c.in_ok-report.ensures.ok

pub returns-then-refuses_reply-clause-cause : goal.returns-then-refuses_reply-clause-cause
returns-then-refuses_reply-clause-cause g c =
    let was_polled = c.in_ok-report.ensures.cause in
    ok_stop (g.H.Host.faults c.args.host.now) (g.H.Host.faults c.poll_next.new.host) _ was_polled.disk_later was_polled.tell_later

pub hear_report-requires-clause-awaited : goal.hear_report-requires-clause-awaited
hear_report-requires-clause-awaited g c =
    let r = c.in-Some.report in
    not_some (refused_reply r.number r.outcomes (flight_in c.args.served.engine.core.value r.number)) c.refuses_reply.result c.refuses_reply.ensures.own c.if-refuses_reply.false

pub returns-then-refuses_reply-clause-spares : goal.returns-then-refuses_reply-clause-spares
returns-then-refuses_reply-clause-spares g c =
    let agent = c.args.agent.now in
    let o = some_unpolled agent c.requires.over in
    let first = waits_left (g.N.Hops.view c.args.hops.now) agent in
    let last = waits_left (g.N.Hops.view c.poll_next.new.hops) c.poll_next.new.self in
    over_spares agent o.0 o.1 first last c.in-Some.report true last refl
    (subst (λ (r : Option Report). Spares (polls_spent (next_polled agent) r) first last) c.in-Some.is c.in_ok-report.ensures.spares) (spares_same last)
