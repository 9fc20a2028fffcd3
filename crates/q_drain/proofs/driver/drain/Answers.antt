use Rattle.std.proofs.Common.{◌≡◌, ◌∙◌, Option, Some, ap, refl, subst, sym}
use Rattle.std.specs.Prelude.{Err}
use Rattle.q_drain.proofs.Causes.{limit_cause, stop_kind}
use Rattle.q_drain.proofs.Exiting.{stopped_as}
use Rattle.q_drain.specs.Drained.{EndsAs, IsDrainError}
use Rattle.q_drain.specs.declared.driver.Drained.{Drained}
use Rattle.q_drain.specs.declared.driver.Drained.TheVariants.{Quiet, Unfinished}
use Rattle.q_engine.proofs.Stopping.{done_cause, made_cause, made_readable}
use Rattle.q_engine.specs.declared.error.EngineError.{EngineError}
use Rattle.q_engine.specs.declared.stop.Stop.{Stop}
use Rattle.q_model.specs.declared.limits.Bound.TheVariants.{Deliveries}
use Rattle.q_drain.proofs.driver.drain.Goals as goal

pub returns-in-Err-clause-ends : goal.returns-in-Err-clause-ends
returns-in-Err-clause-ends g c t w l stands start =
    rw c.stopped_by.ensures (stopped_as w l (record {
      before = record { clock = g.C.Clock.given c.args.clock.now; hops = g.N.Hops.view c.args.hops.now };
      behind = record { clock = g.C.Clock.given c.make_sweeps.new.clock; hops = g.N.Hops.view c.make_sweeps.new.hops };
    }) (g.H.Host.view c.args.host.now) (g.H.Host.view c.make_sweeps.new.host) c.in-Err.stop
    (λ error same. c.in-Err.ensures.err error (ap (λ (s : Stop). Err s) same) t w l stands start)
    (λ area name same. c.in-Err.ensures.readable t area name (ap (λ (s : Stop). Err s) same)))

pub returns-in-Ok-Some-clause-ends : goal.returns-in-Ok-Some-clause-ends
returns-in-Ok-Some-clause-ends g c t w l stands start =
    subst (λ (end : Option Drained). EndsAs w l (record {
      before = record { clock = g.C.Clock.given c.args.clock.now; hops = g.N.Hops.view c.args.hops.now };
      behind = record { clock = g.C.Clock.given c.make_sweeps.new.clock; hops = g.N.Hops.view c.make_sweeps.new.hops };
    }) (g.H.Host.view c.args.host.now) (g.H.Host.view c.make_sweeps.new.host) end) c.in-Ok-Some.field-0-is (c.in-Ok-Some.ensures.ok t w l stands start)

pub returns-in-Ok-Some-clause-ready : goal.returns-in-Ok-Some-clause-ready
returns-in-Ok-Some-clause-ready g c next is =
    let same : c.in-Ok-Some.drained ≡ Quiet next = cc in
    c.in-Ok-Some.ensures.ready next (c.in-Ok-Some.field-0-is ∙ ap Some same)

pub returns-in-Ok-None-clause-ends : goal.returns-in-Ok-None-clause-ends
returns-in-Ok-None-clause-ends g c t w l stands start =
    subst (λ (end : Option Drained). EndsAs w l (record {
      before = record { clock = g.C.Clock.given c.args.clock.now; hops = g.N.Hops.view c.args.hops.now };
      behind = record { clock = g.C.Clock.given c.make_sweeps.new.clock; hops = g.N.Hops.view c.make_sweeps.new.hops };
    }) (g.H.Host.view c.args.host.now) (g.H.Host.view c.make_sweeps.new.host) end) c.in-Ok-None.field-0-is (c.in-Ok-None.ensures.ok t w l stands start)

pub returns-in-Ok-Some-clause-unfinished : goal.returns-in-Ok-Some-clause-unfinished
returns-in-Ok-Some-clause-unfinished g c n is =
    let same : c.in-Ok-Some.drained ≡ Unfinished n = cc in
    c.in-Ok-Some.ensures.unfinished n (c.in-Ok-Some.field-0-is ∙ ap Some same)

pub returns-in-Ok-Some-clause-few : goal.returns-in-Ok-Some-clause-few
returns-in-Ok-Some-clause-few g c n is =
    let same : c.in-Ok-Some.drained ≡ Unfinished n = cc in
    c.in-Ok-Some.ensures.few n (c.in-Ok-Some.field-0-is ∙ ap Some same)

pub returns-in-Ok-Some-clause-cause : goal.returns-in-Ok-Some-clause-cause
returns-in-Ok-Some-clause-cause g c = done_cause (g.H.Host.faults c.args.host.now) (g.H.Host.faults c.make_sweeps.new.host) c.make_sweeps.result c.in-Ok-Some.drained c.make_sweeps.ensures.cause

pub returns-in-Ok-None-clause-cause : goal.returns-in-Ok-None-clause-cause
returns-in-Ok-None-clause-cause g c = limit_cause (g.H.Host.faults c.args.host.now) (g.H.Host.faults c.make_sweeps.new.host) Deliveries c.make_sweeps.result c.make_sweeps.ensures.cause

pub returns-in-Err-clause-kinds : goal.returns-in-Err-clause-kinds
returns-in-Err-clause-kinds g c = subst (λ (e : EngineError). IsDrainError e) (sym c.stopped_by.ensures) (stop_kind c.in-Err.stop)

pub returns-in-Err-clause-readable : goal.returns-in-Err-clause-readable
returns-in-Err-clause-readable g c t = made_readable {T = Drained} g.H.Host.tells c.stopped_by.result c.stopped_by.result c.in-Err.stop c.stopped_by.ensures c.in-Err.ensures.readable t refl

pub returns-in-Err-clause-cause : goal.returns-in-Err-clause-cause
returns-in-Err-clause-cause g c = made_cause (g.H.Host.faults c.args.host.now) (g.H.Host.faults c.make_sweeps.new.host) c.in-Err.stop c.stopped_by.result c.make_sweeps.result c.in-Err.is c.stopped_by.ensures c.make_sweeps.ensures.cause
