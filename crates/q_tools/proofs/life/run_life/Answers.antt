use Rattle.std.proofs.Common.{arith, refl, ◌≡◌, false}
use Rattle.std.specs.Prelude.{Result, IfErr}
use Rattle.q_books.specs.HostStands.{TellsCrashes}
use Rattle.q_events.specs.declared.list_item.ListItem.TheVariants.{End, Restart, Step}
use Rattle.q_model.specs.Ledger.{opening}
use Rattle.q_model.specs.declared.event.Event.TheVariants as events
use Rattle.q_model.specs.declared.event.Mode.TheVariants.{Intake}
use Rattle.q_replay.specs.Listings.{bad, gives, Listing}
use Rattle.q_replay.specs.RunEnds.{RunEnds}
use Rattle.q_replay.specs.Takings.{ReplayCause, is_unreadable}
use Rattle.q_replay.specs.declared.error.ReplayError.{ReplayError}
use Rattle.q_replay.proofs.IntakeEnds.{given_intake}
use Rattle.q_replay.proofs.IntakeEntries.{intake_world}
use Rattle.q_replay.proofs.Named.{each_ended}
use Rattle.q_replay.proofs.Readings.{ledger_on}
use Rattle.q_replay.proofs.Replaying.{may_begin, passed_as, some_given}
use Rattle.q_replay.proofs.Submitting.{cause_on, ends_so, gone_first, gone_further, gone_last, gone_up, never_gone, rose_later}
use Rattle.q_replay.proofs.DamagedSpools.{only_passed, refused_passed}
use Rattle.q_tools.specs.Lives.{life_taken}
use Rattle.q_tools.specs.Refusals.{IsLifeRefusal}
use Rattle.q_tools.proofs.LifeErrors.{host_life, life_begins, life_ends, life_only, moment_life}
use Rattle.q_tools.proofs.life.run_life.Goals as goal

abbrev rest : Listing
rest = gives End 2 (bad 3)

pub returns-in_err-begun-clause-ends : goal.returns-in_err-begun-clause-ends
returns-in_err-begun-clause-ends g c t b h orderly asked settings table_is =
    let w = intake_world asked in
    let view = g.H.Host.view in
    let u = view c.args.host.now in
    let lawful : TellsCrashes u = record { only = g.met.H.Host.only_now c.args.host.now; told = g.met.H.Host.told_stays c.args.host.now } in
    let given = given_intake c.args.params c.intake_params.result c.args.table asked b u c.intake_params.ensures.exact h orderly settings table_is in
    let taken = life_taken w b c.args.moment in
    let error = c.in_err-begun.field-0.0 in
    life_ends asked b c.args.moment u (view c.begin_life.new.host) c.from_residual.result c.requires.moment
    (passed_as c.from_residual.result error (RunEnds w Intake b taken u (view c.begin_life.new.host)) c.from_residual.ensures.1
    (never_gone w Intake b Restart 0 (gives (Step (events.At c.args.moment) 1) 1 rest) u (view c.begin_life.new.host) error lawful h (c.in_err-begun.ensures.err t w (opening Intake b) (may_begin c.intake_params.result c.args.table Intake w b u given))))

pub returns-in_err-timed-clause-ends : goal.returns-in_err-timed-clause-ends
returns-in_err-timed-clause-ends g c t b h orderly asked settings table_is =
    let w = intake_world asked in
    let view = g.H.Host.view in
    let u = view c.args.host.now in
    let lawful : TellsCrashes u = record { only = g.met.H.Host.only_now c.args.host.now; told = g.met.H.Host.told_stays c.args.host.now } in
    let given = given_intake c.args.params c.intake_params.result c.args.table asked b u c.intake_params.ensures.exact h orderly settings table_is in
    let taken = life_taken w b c.args.moment in
    let gone_1 = gone_first w Intake b Restart (Step (events.At c.args.moment) 1) 0 1 rest c.in_ok-begun.begun u (view c.begin_life.new.host) lawful given.host refl (c.in_ok-begun.ensures.ok t w (opening Intake b) (may_begin c.intake_params.result c.args.table Intake w b u given)) in
    let error = c.in_err-timed.field-0.0 in
    life_ends asked b c.args.moment u (view c.hear.new.host) c.from_residual-in_err-timed.result c.requires.moment
    (passed_as c.from_residual-in_err-timed.result error (RunEnds w Intake b taken u (view c.hear.new.host)) c.from_residual-in_err-timed.ensures.1
    (gone_up w Intake b taken (Step (events.At c.args.moment) 1) 1 rest c.in_ok-begun.begun u (view c.begin_life.new.host) gone_1 (view c.hear.new.host) error (c.in_err-timed.ensures.err 1 t)))

pub returns-clause-ends : goal.returns-clause-ends
returns-clause-ends g c t b h orderly asked settings table_is =
    let w = intake_world asked in
    let view = g.H.Host.view in
    let u = view c.args.host.now in
    let lawful : TellsCrashes u = record { only = g.met.H.Host.only_now c.args.host.now; told = g.met.H.Host.told_stays c.args.host.now } in
    let given = given_intake c.args.params c.intake_params.result c.args.table asked b u c.intake_params.ensures.exact h orderly settings table_is in
    let taken = life_taken w b c.args.moment in
    let gone_1 = gone_first w Intake b Restart (Step (events.At c.args.moment) 1) 0 1 rest c.in_ok-begun.begun u (view c.begin_life.new.host) lawful given.host refl (c.in_ok-begun.ensures.ok t w (opening Intake b) (may_begin c.intake_params.result c.args.table Intake w b u given)) in
    let gone_2 = gone_further w Intake b taken (Step (events.At c.args.moment) 1) End 1 2 (bad 3) c.in_ok-begun.begun c.in_ok-timed.timed u (view c.begin_life.new.host) (view c.hear.new.host) gone_1 refl (c.in_ok-timed.ensures.ok 1 t) in
    let x = view c.end.new.host in
    life_ends asked b c.args.moment u x c.end.result c.requires.moment
    (ends_so c.end.result (RunEnds w Intake b taken u x) (λ done takes. gone_last w Intake b taken End 2 (bad 3) c.in_ok-timed.timed u (view c.hear.new.host) gone_2 x done refl (takes t))
    (λ error up. gone_up w Intake b taken End 2 (bad 3) c.in_ok-timed.timed u (view c.hear.new.host) gone_2 x error (up t)) c.end.ensures.ok c.end.ensures.err)

pub hear-requires-clause-stands : goal.hear-requires-clause-stands
hear-requires-clause-stands g c t =
    let view = g.H.Host.view in
    let u = view c.args.host.now in
    let lawful : TellsCrashes u = record { only = g.met.H.Host.only_now c.args.host.now; told = g.met.H.Host.told_stays c.args.host.now } in
    let (w, b, given) = some_given c.intake_params.result c.args.table u (c.requires.spool t) (c.in_ok-begun.ensures.undamaged t) in
    let gone_1 = gone_first w Intake b Restart (Step (events.At c.args.moment) 1) 0 1 rest c.in_ok-begun.begun u (view c.begin_life.new.host) lawful given.host refl (c.in_ok-begun.ensures.ok t w (opening Intake b) (may_begin c.intake_params.result c.args.table Intake w b u given)) in
    (w, ledger_on w Intake b gone_1.items, gone_1.stands)

pub returns-clause-cause : goal.returns-clause-cause
returns-clause-cause g c =
    let first = c.begin_life.ensures.cause in
    let second = c.hear.ensures.cause in
    let last = c.end.ensures.cause in
    record {
      disk_later = omega (arith, first.disk_later, second.disk_later, last.disk_later);
      tell_later = omega (arith, first.tell_later, second.tell_later, last.tell_later);
      disk = λ is. rose_later _ (g.H.Host.faults c.hear.new.host).disk _ (omega (arith, first.disk_later, second.disk_later)) (last.disk is);
      tell = λ is. rose_later _ (g.H.Host.faults c.hear.new.host).tell _ (omega (arith, first.tell_later, second.tell_later)) (last.tell is);
    }

pub returns-in_err-timed-clause-cause : goal.returns-in_err-timed-clause-cause
returns-in_err-timed-clause-cause g c =
    let a = g.H.Host.faults c.args.host.now in
    let b = g.H.Host.faults c.begin_life.new.host in
    let d = g.H.Host.faults c.hear.new.host in
    let error = c.in_err-timed.field-0.0 in
    let begun = c.begin_life.ensures.cause in
    passed_as c.from_residual-in_err-timed.result error (λ (r : Result (Unit {0}) ReplayError). ReplayCause a d r) c.from_residual-in_err-timed.ensures.1
    (cause_on a b d error begun.disk_later begun.tell_later c.in_err-timed.ensures.cause)

pub returns-in_err-begun-clause-damaged : goal.returns-in_err-begun-clause-damaged
returns-in_err-begun-clause-damaged g c t area name damage =
    refused_passed (g.H.Host.view c.args.host.now) (g.H.Host.view c.begin_life.new.host) area name c.from_residual.result c.in_err-begun.field-0.0 c.from_residual.ensures.1 (c.in_err-begun.ensures.damaged t area name damage)

pub returns-in_err-begun-clause-only_damaged : goal.returns-in_err-begun-clause-only_damaged
returns-in_err-begun-clause-only_damaged g c t =
    only_passed (g.H.Host.view c.begin_life.new.host) c.from_residual.result c.in_err-begun.field-0.0 c.from_residual.ensures.1 (c.in_err-begun.ensures.only_damaged t)

pub returns-in_err-timed-clause-damaged : goal.returns-in_err-timed-clause-damaged
returns-in_err-timed-clause-damaged g c t area name damage = absurd (c.in_ok-begun.ensures.undamaged t area name damage)

pub returns-in_err-timed-clause-only_damaged : goal.returns-in_err-timed-clause-only_damaged
returns-in_err-timed-clause-only_damaged g c t =
    let u = g.H.Host.view c.args.host.now in
    let (w, b, given) = some_given c.args.params c.args.table u (c.requires.spool t) (c.in_ok-begun.ensures.undamaged t) in
    life_only w b c.args.moment u (g.H.Host.view c.hear.new.host) c.from_residual-in_err-timed.result (returns-in_err-timed-clause-ends g c t b given.host given.orderly w given.settings given.table_is)

pub returns-clause-damaged : goal.returns-clause-damaged
returns-clause-damaged g c t area name damage = absurd (c.in_ok-begun.ensures.undamaged t area name damage)

pub returns-clause-only_damaged : goal.returns-clause-only_damaged
returns-clause-only_damaged g c t =
    let u = g.H.Host.view c.args.host.now in
    let (w, b, given) = some_given c.args.params c.args.table u (c.requires.spool t) (c.in_ok-begun.ensures.undamaged t) in
    life_only w b c.args.moment u (g.H.Host.view c.end.new.host) c.end.result (returns-clause-ends g c t b given.host given.orderly w given.settings given.table_is)

pub returns-in_err-begun-clause-readable : goal.returns-in_err-begun-clause-readable
returns-in_err-begun-clause-readable g c t =
    passed_as c.from_residual.result c.in_err-begun.field-0.0 (λ (r : Result (Unit {0}) ReplayError). IfErr r (λ error. is_unreadable error ≡ false)) c.from_residual.ensures.1 (c.in_err-begun.ensures.readable t)

pub returns-in_err-timed-clause-readable : goal.returns-in_err-timed-clause-readable
returns-in_err-timed-clause-readable g c t =
    passed_as c.from_residual-in_err-timed.result c.in_err-timed.field-0.0 (λ (r : Result (Unit {0}) ReplayError). IfErr r (λ error. is_unreadable error ≡ false)) c.from_residual-in_err-timed.ensures.1 (c.in_err-timed.ensures.readable t)

pub returns-clause-readable : goal.returns-clause-readable
returns-clause-readable g c t = c.end.ensures.readable t

pub returns-in_err-begun-clause-named : goal.returns-in_err-begun-clause-named
returns-in_err-begun-clause-named g c =
    passed_as c.from_residual.result c.in_err-begun.field-0.0 (λ (r : Result (Unit {0}) ReplayError). IfErr r IsLifeRefusal) c.from_residual.ensures.1 (life_begins c.in_err-begun.field-0.0 c.in_err-begun.ensures.named)

pub returns-in_err-timed-clause-named : goal.returns-in_err-timed-clause-named
returns-in_err-timed-clause-named g c =
    passed_as c.from_residual-in_err-timed.result c.in_err-timed.field-0.0 (λ (r : Result (Unit {0}) ReplayError). IfErr r IsLifeRefusal) c.from_residual-in_err-timed.ensures.1 (moment_life c.in_ok-begun.begun c.args.moment c.in_err-timed.field-0.0 c.in_err-timed.ensures.named)

pub returns-clause-named : goal.returns-clause-named
returns-clause-named g c = each_ended c.end.result IsLifeRefusal host_life c.end.ensures.named
