use Rattle.std.proofs.Common.{◌≡◌, ◌∙◌, arith, inl, inr, refl, subst, sym, ap, Bool}
use Rattle.std.specs.Prelude.{Err}
use Rattle.q_books.specs.HostStands.{TellsCrashes}
use Rattle.q_drain.proofs.Awaited.{at_unrefused, unless_event}
use Rattle.q_drain.proofs.Causes.{engine_ok, engine_passed, engine_readable}
use Rattle.q_drain.proofs.ClockTurns.{heard_at, heard_part, heard_same, host_fault, IsNew, never_refused, past_now}
use Rattle.q_drain.specs.Faults.{stop_of}
use Rattle.q_drain.specs.Heard.{IsFirst}
use Rattle.q_engine.proofs.Stopping.{told_kinds}
use Rattle.q_engine.specs.declared.stop.Stop.TheVariants as stops
use Rattle.q_model.specs.Step.{after_all}
use Rattle.q_drain.proofs.hearing.hear_clock.Goals.{else-not-first-via-then-not-first+else-moment-now, else-not-first-via-else-not-first}
use Rattle.q_drain.proofs.hearing.hear_clock.Goals as goal

pub returns-then-moment-now-clause-ok : goal.returns-then-moment-now-clause-ok
returns-then-moment-now-clause-ok g c t w l a hops early fs os s first b =
    let u = g.H.Host.view c.args.host.now in
    let lawful : TellsCrashes u = record { only = g.met.H.Host.only_now c.args.host.now; told = g.met.H.Host.told_stays c.args.host.now } in
    heard_same w l a (g.C.Clock.given c.args.clock.now) (g.C.Clock.given c.now-moment.new.self) hops u c.args.engine early fs os s c.now-moment.result c.now.result lawful
    (subst (λ (x : Bool). IsFirst x s) c.if-not-first.true first) c.now-moment.ensures.given c.now.ensures.ledger c.if-moment-now.true b

pub returns-in-Ok-clause-ok : goal.returns-in-Ok-clause-ok
returns-in-Ok-clause-ok g c t w l a hops early fs os s first b =
    let old = g.C.Clock.given c.args.clock.now in
    let u = g.H.Host.view c.args.host.now in
    let moment = c.now-moment.result in
    let late : IsNew c.args.first s moment = elim c.else-not-first.branch [
      | else-not-first-via-then-not-first+else-moment-now x ↦ inr (past_now w l a (record { clock = old; hops = hops }) u c.args.engine early fs os s x.now.result moment x.now.ensures.ledger b (omega (arith, x.if-moment-now.false)))
      | else-not-first-via-else-not-first x ↦ inl x.if-not-first.false
    ] in
    heard_at w l a old (g.C.Clock.given c.now-moment.new.self) hops u (g.H.Host.view c.step.new.host) c.args.engine c.in-Ok.next early fs os s c.args.first moment first c.now-moment.ensures.given late b
    (c.in-Ok.ensures.ok t w (after_all w l s.told) b.2.stands)

pub returns-in-Err-clause-err : goal.returns-in-Err-clause-err
returns-in-Err-clause-err g c error is t w l a hops early fs os s first b =
    let old = g.C.Clock.given c.args.clock.now in
    let u = g.H.Host.view c.args.host.now in
    let moment = c.now-moment.result in
    let late : IsNew c.args.first s moment = elim c.else-not-first.branch [
      | else-not-first-via-then-not-first+else-moment-now x ↦ inr (past_now w l a (record { clock = old; hops = hops }) u c.args.engine early fs os s x.now.result moment x.now.ensures.ledger b (omega (arith, x.if-moment-now.false)))
      | else-not-first-via-else-not-first x ↦ inl x.if-not-first.false
    ] in
    let h = b.2 in
    let k = after_all w l s.told in
    let why = c.in-Err.error in
    let kind = never_refused c.args.engine why moment w k (told_kinds why (c.in-Err.ensures.kinds why refl) (c.in-Err.ensures.readable t why refl)) (λ of. c.in-Err.ensures.only_refused why refl of w k h.stands.core h.stands.counts) in
    let one : c.stop_of.result ≡ stops.Host error = cc in
    let same : stop_of why ≡ stops.Host error = sym c.stop_of.ensures ∙ one in
    heard_part w l a old (g.C.Clock.given c.now-moment.new.self) hops u (g.H.Host.view c.step.new.host) c.args.engine early fs os s c.args.first moment error first c.now-moment.ensures.given late b
    (c.in-Err.ensures.err error (ap (λ e. Err e) (host_fault why error kind same)) t w k h.stands)

pub stop_of-requires : goal.stop_of-requires
stop_of-requires g c =
    let why = c.in-Err.error in
    unless_event why (c.in-Err.ensures.kinds why refl) (λ of. at_unrefused c.args.engine c.now-moment.result why (c.in-Err.ensures.own why refl of))

pub returns-in-Ok-clause-cause : goal.returns-in-Ok-clause-cause
returns-in-Ok-clause-cause g c = engine_ok (g.H.Host.faults c.args.host.now) (g.H.Host.faults c.step.new.host) c.step.result c.in-Ok.next c.step.ensures.cause

pub returns-in-Err-clause-cause : goal.returns-in-Err-clause-cause
returns-in-Err-clause-cause g c = engine_passed (g.H.Host.faults c.args.host.now) (g.H.Host.faults c.step.new.host) c.in-Err.error c.stop_of.result c.step.result c.in-Err.is c.stop_of.ensures c.step.ensures.cause

pub returns-in-Err-clause-readable : goal.returns-in-Err-clause-readable
returns-in-Err-clause-readable g c t area name of = engine_readable c.in-Err.error c.stop_of.result area name c.stop_of.ensures (c.in-Err.ensures.readable t c.in-Err.error refl) of
