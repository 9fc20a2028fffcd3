use Rattle.std.proofs.Common.{◌≡◌, ◌∙◌, ap, subst, false}
use Rattle.std.specs.Prelude.{Err, IfErr, Ok, Result}
use Rattle.q_books.specs.HostStands.{TellsCrashes}
use Rattle.q_drain.specs.Drained.{Drains, IsDrainError}
use Rattle.q_drain.specs.Standing.{Outside}
use Rattle.q_drain.specs.Swept.{Outsides}
use Rattle.q_drain.specs.declared.driver.Drained.{Drained}
use Rattle.q_drain.specs.declared.driver.Drained.TheVariants.{Quiet, Unfinished}
use Rattle.q_engine.specs.declared.error.EngineError.{EngineError}
use Rattle.q_events.specs.declared.list_item.ListItem.TheVariants.{End}
use Rattle.q_model.specs.Ledger.{opening}
use Rattle.q_model.specs.declared.event.Mode.TheVariants.{Deliver}
use Rattle.q_replay.proofs.AllowedItems.{first_allowed}
use Rattle.q_replay.proofs.DamagedSpools.{only_passed, refused_passed, untaken_only}
use Rattle.q_replay.proofs.Delivering.{at_start, begun_stands, begun_told, delivers_all, drain_failed, leaves_some, never_delivers, never_ended, stands_quiet}
use Rattle.q_replay.proofs.Named.{delivery_begins, drained_named, ended_delivery}
use Rattle.q_replay.proofs.Readings.{ledger_on}
use Rattle.q_replay.proofs.Replaying.{IsGivenTo, may_begin, passed_as, some_given}
use Rattle.q_replay.proofs.Submitting.{cause_on, engine_passed}
use Rattle.q_replay.specs.Deliveries.{begun_on, DeliveryEnds, life_told}
use Rattle.q_replay.specs.Named.{IsDeliveryRefusal}
use Rattle.q_replay.specs.Takings.{is_unreadable}
use Rattle.q_replay.specs.declared.error.ReplayError.{ReplayError}
use Rattle.q_engine.specs.Refusals.{is_unreadable as is_engine_unreadable}
use Rattle.q_replay.proofs.Readable.{engine_readable}
use Rattle.q_replay.specs.declared.deliveries.Delivered.{Delivered}
use Rattle.q_replay.proofs.deliveries.deliver.Goals as goal

pub returns-in_err-begun-clause-ends : goal.returns-in_err-begun-clause-ends
returns-in_err-begun-clause-ends g c t b h orderly w settings table_is =
    let u = g.H.Host.view c.args.host.now in
    let x = g.H.Host.view c.begin_life.new.host in
    let lawful : TellsCrashes u = record { only = g.met.H.Host.only_now c.args.host.now; told = g.met.H.Host.told_stays c.args.host.now } in
    let a : Outside = record { clock = g.C.Clock.given c.args.clock.now; hops = g.N.Hops.view c.args.hops.now } in
    let given : IsGivenTo c.args.params c.args.table w b u = record { host = h; orderly = orderly; settings = settings; table_is = table_is } in
    let error = c.in_err-begun.field-0.0 in
    passed_as c.from_residual.result error (DeliveryEnds w b (record { before = a; behind = a }) u x) c.from_residual.ensures.1
    (never_delivers w b u x lawful h a error (c.in_err-begun.ensures.err t w (opening Deliver b) (may_begin c.args.params c.args.table Deliver w b u given)))

pub returns-in_err-begun-clause-damaged : goal.returns-in_err-begun-clause-damaged
returns-in_err-begun-clause-damaged g c t area name damage =
    refused_passed (g.H.Host.view c.args.host.now) (g.H.Host.view c.begin_life.new.host) area name c.from_residual.result c.in_err-begun.field-0.0 c.from_residual.ensures.1 (c.in_err-begun.ensures.damaged t area name damage)

pub returns-in_err-begun-clause-only_damaged : goal.returns-in_err-begun-clause-only_damaged
returns-in_err-begun-clause-only_damaged g c t =
    only_passed (g.H.Host.view c.begin_life.new.host) c.from_residual.result c.in_err-begun.field-0.0 c.from_residual.ensures.1 (c.in_err-begun.ensures.only_damaged t)

pub drain-requires-clause-stands : goal.drain-requires-clause-stands
drain-requires-clause-stands g c t =
    let u = g.H.Host.view c.args.host.now in
    let lawful : TellsCrashes u = record { only = g.met.H.Host.only_now c.args.host.now; told = g.met.H.Host.told_stays c.args.host.now } in
    let (w, b, given) = some_given c.args.params c.args.table u (c.requires.spool t) (c.in_ok-begun.ensures.undamaged t) in
    (w, begun_on w b, begun_stands w b c.in_ok-begun.begun u (g.H.Host.view c.begin_life.new.host) lawful given.host (c.in_ok-begun.ensures.ok t w (opening Deliver b) (may_begin c.args.params c.args.table Deliver w b u given)), at_start w b)

pub returns-in_ok-end-in-Ok-Quiet-clause-ends : goal.returns-in_ok-end-in-Ok-Quiet-clause-ends
returns-in_ok-end-in-Ok-Quiet-clause-ends g c t b h orderly w settings table_is =
    let u = g.H.Host.view c.args.host.now in
    let v = g.H.Host.view c.begin_life.new.host in
    let x = g.H.Host.view c.drain.new.host in
    let lawful : TellsCrashes u = record { only = g.met.H.Host.only_now c.args.host.now; told = g.met.H.Host.told_stays c.args.host.now } in
    let o : Outsides = record {
      before = record { clock = g.C.Clock.given c.args.clock.now; hops = g.N.Hops.view c.args.hops.now };
      behind = record { clock = g.C.Clock.given c.drain.new.clock; hops = g.N.Hops.view c.drain.new.hops };
    } in
    let given : IsGivenTo c.args.params c.args.table w b u = record { host = h; orderly = orderly; settings = settings; table_is = table_is } in
    let took = c.in_ok-begun.ensures.ok t w (opening Deliver b) (may_begin c.args.params c.args.table Deliver w b u given) in
    let first = begun_told w b c.in_ok-begun.begun u v lawful h took in
    let begins = first_allowed w Deliver b took.accepted in
    let stands = begun_stands w b c.in_ok-begun.begun u v lawful h took in
    let ends : Drains c.in_ok-begun.begun o (Ok (Quiet c.in-Ok-Quiet.engine)) v x =
    subst (λ (d : Drained). Drains c.in_ok-begun.begun o (Ok d) v x) c.in-Ok-Quiet.field-0-is
    (subst (λ (r : Result Drained EngineError). Drains c.in_ok-begun.begun o r v x) c.in-Ok-Quiet.is (c.drain.ensures.ends t)) in
    let e = ends w (begun_on w b) stands (at_start w b) in
    delivers_all w b o u v first begins x c.in-Ok-Quiet.engine e (g.H.Host.view c.end.new.host)
    (c.in_ok-end-in-Ok-Quiet.ensures.ok t w (ledger_on w Deliver b (life_told e.ends.story)) (stands_quiet w b o u v first begins x c.in-Ok-Quiet.engine e))

pub returns-in_err-end-in-Ok-Quiet-clause-ends : goal.returns-in_err-end-in-Ok-Quiet-clause-ends
returns-in_err-end-in-Ok-Quiet-clause-ends g c t b h orderly w settings table_is =
    let u = g.H.Host.view c.args.host.now in
    let v = g.H.Host.view c.begin_life.new.host in
    let x = g.H.Host.view c.drain.new.host in
    let lawful : TellsCrashes u = record { only = g.met.H.Host.only_now c.args.host.now; told = g.met.H.Host.told_stays c.args.host.now } in
    let o : Outsides = record {
      before = record { clock = g.C.Clock.given c.args.clock.now; hops = g.N.Hops.view c.args.hops.now };
      behind = record { clock = g.C.Clock.given c.drain.new.clock; hops = g.N.Hops.view c.drain.new.hops };
    } in
    let given : IsGivenTo c.args.params c.args.table w b u = record { host = h; orderly = orderly; settings = settings; table_is = table_is } in
    let took = c.in_ok-begun.ensures.ok t w (opening Deliver b) (may_begin c.args.params c.args.table Deliver w b u given) in
    let first = begun_told w b c.in_ok-begun.begun u v lawful h took in
    let begins = first_allowed w Deliver b took.accepted in
    let stands = begun_stands w b c.in_ok-begun.begun u v lawful h took in
    let ends : Drains c.in_ok-begun.begun o (Ok (Quiet c.in-Ok-Quiet.engine)) v x =
    subst (λ (d : Drained). Drains c.in_ok-begun.begun o (Ok d) v x) c.in-Ok-Quiet.field-0-is
    (subst (λ (r : Result Drained EngineError). Drains c.in_ok-begun.begun o r v x) c.in-Ok-Quiet.is (c.drain.ensures.ends t)) in
    let e = ends w (begun_on w b) stands (at_start w b) in
    let y = g.H.Host.view c.end.new.host in
    let error = c.in_err-end-in-Ok-Quiet.field-0.0 in
    let r = c.from_residual-in_err-end-in-Ok-Quiet in
    passed_as r.result error (DeliveryEnds w b o u y) r.ensures.1
    (never_ended w b o u v first begins x c.in-Ok-Quiet.engine e y error (c.in_err-end-in-Ok-Quiet.ensures.err t w (ledger_on w Deliver b (life_told e.ends.story)) (stands_quiet w b o u v first begins x c.in-Ok-Quiet.engine e)))

pub returns-in_err-end-in-Ok-Quiet-clause-damaged : goal.returns-in_err-end-in-Ok-Quiet-clause-damaged
returns-in_err-end-in-Ok-Quiet-clause-damaged g c t area name damage = absurd (c.in_ok-begun.ensures.undamaged t area name damage)

pub returns-in_err-end-in-Ok-Quiet-clause-only_damaged : goal.returns-in_err-end-in-Ok-Quiet-clause-only_damaged
returns-in_err-end-in-Ok-Quiet-clause-only_damaged g c t =
    let u = g.H.Host.view c.args.host.now in
    let v = g.H.Host.view c.begin_life.new.host in
    let x = g.H.Host.view c.drain.new.host in
    let lawful : TellsCrashes u = record { only = g.met.H.Host.only_now c.args.host.now; told = g.met.H.Host.told_stays c.args.host.now } in
    let o : Outsides = record {
      before = record { clock = g.C.Clock.given c.args.clock.now; hops = g.N.Hops.view c.args.hops.now };
      behind = record { clock = g.C.Clock.given c.drain.new.clock; hops = g.N.Hops.view c.drain.new.hops };
    } in
    let (w, b, given) = some_given c.args.params c.args.table u (c.requires.spool t) (c.in_ok-begun.ensures.undamaged t) in
    let took = c.in_ok-begun.ensures.ok t w (opening Deliver b) (may_begin c.args.params c.args.table Deliver w b u given) in
    let first = begun_told w b c.in_ok-begun.begun u v lawful given.host took in
    let begins = first_allowed w Deliver b took.accepted in
    let stands = begun_stands w b c.in_ok-begun.begun u v lawful given.host took in
    let ends : Drains c.in_ok-begun.begun o (Ok (Quiet c.in-Ok-Quiet.engine)) v x =
    subst (λ (d : Drained). Drains c.in_ok-begun.begun o (Ok d) v x) c.in-Ok-Quiet.field-0-is
    (subst (λ (r : Result Drained EngineError). Drains c.in_ok-begun.begun o r v x) c.in-Ok-Quiet.is (c.drain.ensures.ends t)) in
    let e = ends w (begun_on w b) stands (at_start w b) in
    let y = g.H.Host.view c.end.new.host in
    let error = c.in_err-end-in-Ok-Quiet.field-0.0 in
    let r = c.from_residual-in_err-end-in-Ok-Quiet in
    let k = ledger_on w Deliver b (life_told e.ends.story) in
    only_passed {S = Unit {0}} y r.result error r.ensures.1
    (untaken_only {T = Unit {0}} w k End 0 error x y (c.in_err-end-in-Ok-Quiet.ensures.err t w k (stands_quiet w b o u v first begins x c.in-Ok-Quiet.engine e)))

pub returns-in-Ok-Unfinished-clause-ends : goal.returns-in-Ok-Unfinished-clause-ends
returns-in-Ok-Unfinished-clause-ends g c t b h orderly w settings table_is =
    let u = g.H.Host.view c.args.host.now in
    let v = g.H.Host.view c.begin_life.new.host in
    let x = g.H.Host.view c.drain.new.host in
    let lawful : TellsCrashes u = record { only = g.met.H.Host.only_now c.args.host.now; told = g.met.H.Host.told_stays c.args.host.now } in
    let o : Outsides = record {
      before = record { clock = g.C.Clock.given c.args.clock.now; hops = g.N.Hops.view c.args.hops.now };
      behind = record { clock = g.C.Clock.given c.drain.new.clock; hops = g.N.Hops.view c.drain.new.hops };
    } in
    let given : IsGivenTo c.args.params c.args.table w b u = record { host = h; orderly = orderly; settings = settings; table_is = table_is } in
    let took = c.in_ok-begun.ensures.ok t w (opening Deliver b) (may_begin c.args.params c.args.table Deliver w b u given) in
    let first = begun_told w b c.in_ok-begun.begun u v lawful h took in
    let begins = first_allowed w Deliver b took.accepted in
    let stands = begun_stands w b c.in_ok-begun.begun u v lawful h took in
    let ends : Drains c.in_ok-begun.begun o (Ok (Unfinished c.in-Ok-Unfinished.rests)) v x =
    subst (λ (d : Drained). Drains c.in_ok-begun.begun o (Ok d) v x) c.in-Ok-Unfinished.field-0-is
    (subst (λ (r : Result Drained EngineError). Drains c.in_ok-begun.begun o r v x) c.in-Ok-Unfinished.is (c.drain.ensures.ends t)) in
    leaves_some w b o u v first begins x c.in-Ok-Unfinished.rests (ends w (begun_on w b) stands (at_start w b))

pub returns-in-Err-clause-ends : goal.returns-in-Err-clause-ends
returns-in-Err-clause-ends g c t b h orderly w settings table_is =
    let u = g.H.Host.view c.args.host.now in
    let v = g.H.Host.view c.begin_life.new.host in
    let x = g.H.Host.view c.drain.new.host in
    let lawful : TellsCrashes u = record { only = g.met.H.Host.only_now c.args.host.now; told = g.met.H.Host.told_stays c.args.host.now } in
    let o : Outsides = record {
      before = record { clock = g.C.Clock.given c.args.clock.now; hops = g.N.Hops.view c.args.hops.now };
      behind = record { clock = g.C.Clock.given c.drain.new.clock; hops = g.N.Hops.view c.drain.new.hops };
    } in
    let given : IsGivenTo c.args.params c.args.table w b u = record { host = h; orderly = orderly; settings = settings; table_is = table_is } in
    let took = c.in_ok-begun.ensures.ok t w (opening Deliver b) (may_begin c.args.params c.args.table Deliver w b u given) in
    let first = begun_told w b c.in_ok-begun.begun u v lawful h took in
    let begins = first_allowed w Deliver b took.accepted in
    let stands = begun_stands w b c.in_ok-begun.begun u v lawful h took in
    let ends : Drains c.in_ok-begun.begun o (Err c.in-Err.error) v x = subst (λ (r : Result Drained EngineError). Drains c.in_ok-begun.begun o r v x) c.in-Err.is (c.drain.ensures.ends t) in
    let kind = subst (λ (r : Result Drained EngineError). IfErr r IsDrainError) c.in-Err.is c.drain.ensures.kinds in
    rw c.replay_error.ensures.exact (drain_failed w b o u v first begins x c.in-Err.error kind (ends w (begun_on w b) stands (at_start w b)))

pub returns-in-Err-clause-damaged : goal.returns-in-Err-clause-damaged
returns-in-Err-clause-damaged g c t area name damage = absurd (c.in_ok-begun.ensures.undamaged t area name damage)

pub returns-in-Ok-Unfinished-clause-unfinished : goal.returns-in-Ok-Unfinished-clause-unfinished
returns-in-Ok-Unfinished-clause-unfinished g c n is =
    let same : c.in-Ok-Unfinished.rests ≡ n = cc in
    c.drain.ensures.unfinished n (c.in-Ok-Unfinished.is ∙ ap {B = Result Drained EngineError} (λ (d : Drained). Ok d) (c.in-Ok-Unfinished.field-0-is ∙ ap Unfinished same))

pub returns-in-Ok-Unfinished-clause-few : goal.returns-in-Ok-Unfinished-clause-few
returns-in-Ok-Unfinished-clause-few g c n is =
    let same : c.in-Ok-Unfinished.rests ≡ n = cc in
    c.drain.ensures.few n (c.in-Ok-Unfinished.is ∙ ap {B = Result Drained EngineError} (λ (d : Drained). Ok d) (c.in-Ok-Unfinished.field-0-is ∙ ap Unfinished same))

pub returns-in-Err-clause-cause : goal.returns-in-Err-clause-cause
returns-in-Err-clause-cause g c =
    let b = g.H.Host.faults c.begin_life.new.host in
    let d = g.H.Host.faults c.drain.new.host in
    let begun = c.in_ok-begun.ensures.cause in
    cause_on {S = Drained} (g.H.Host.faults c.args.host.now) b d c.replay_error.result begun.disk_later begun.tell_later
    (engine_passed b d 0 c.in-Err.error c.replay_error.result c.drain.result c.in-Err.is c.replay_error.ensures.exact c.drain.ensures.cause)

pub returns-in_err-begun-clause-readable : goal.returns-in_err-begun-clause-readable
returns-in_err-begun-clause-readable g c t =
    passed_as c.from_residual.result c.in_err-begun.field-0.0 (λ (r : Result Delivered ReplayError). IfErr r (λ error. is_unreadable error ≡ false)) c.from_residual.ensures.1 (c.in_err-begun.ensures.readable t)

pub returns-in_err-end-in-Ok-Quiet-clause-readable : goal.returns-in_err-end-in-Ok-Quiet-clause-readable
returns-in_err-end-in-Ok-Quiet-clause-readable g c t =
    passed_as c.from_residual-in_err-end-in-Ok-Quiet.result c.in_err-end-in-Ok-Quiet.field-0.0 (λ (r : Result Delivered ReplayError). IfErr r (λ error. is_unreadable error ≡ false)) c.from_residual-in_err-end-in-Ok-Quiet.ensures.1 (c.in_err-end-in-Ok-Quiet.ensures.readable t)

pub returns-in-Err-clause-readable : goal.returns-in-Err-clause-readable
returns-in-Err-clause-readable g c t =
    let readable = subst (λ (r : Result Drained EngineError). IfErr r (λ error. is_engine_unreadable error ≡ false)) c.in-Err.is (c.drain.ensures.readable t) in
    rw c.replay_error.ensures.exact (engine_readable 0 c.in-Err.error readable)

pub returns-in_err-begun-clause-named : goal.returns-in_err-begun-clause-named
returns-in_err-begun-clause-named g c =
    passed_as c.from_residual.result c.in_err-begun.field-0.0 (λ (r : Result Delivered ReplayError). IfErr r IsDeliveryRefusal) c.from_residual.ensures.1 (delivery_begins c.in_err-begun.field-0.0 c.in_err-begun.ensures.named)

pub returns-in_err-end-in-Ok-Quiet-clause-named : goal.returns-in_err-end-in-Ok-Quiet-clause-named
returns-in_err-end-in-Ok-Quiet-clause-named g c =
    passed_as c.from_residual-in_err-end-in-Ok-Quiet.result c.in_err-end-in-Ok-Quiet.field-0.0 (λ (r : Result Delivered ReplayError). IfErr r IsDeliveryRefusal) c.from_residual-in_err-end-in-Ok-Quiet.ensures.1 (ended_delivery c.in_err-end-in-Ok-Quiet.field-0.0 c.in_err-end-in-Ok-Quiet.ensures.named)

pub returns-in-Err-clause-named : goal.returns-in-Err-clause-named
returns-in-Err-clause-named g c =
    let kinds = subst (λ (r : Result Drained EngineError). IfErr r IsDrainError) c.in-Err.is c.drain.ensures.kinds in
    rw c.replay_error.ensures.exact (drained_named c.in-Err.error kinds)
