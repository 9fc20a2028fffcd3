use Rattle.std.proofs.Common.{arith}
use Rattle.std.specs.Prelude.{Err}
use Rattle.q_listen.specs.Refusals.{listen_error}
use Rattle.q_books.specs.HostStands.{TellsCrashes}
use Rattle.q_listen.proofs.Asked.{listen_same}
use Rattle.q_listen.proofs.Beginning.{begins_to, never_begins}
use Rattle.q_listen.proofs.Refusing.{damage_only, damage_passed}
use Rattle.q_listen.specs.ListenEnds.{Outside, Outsides}
use Rattle.q_model.specs.Ledger.{opening}
use Rattle.q_model.specs.declared.event.Mode.TheVariants.{Intake}
use Rattle.q_replay.proofs.IntakeEnds.{given_intake}
use Rattle.q_replay.proofs.IntakeEntries.{intake_world}
use Rattle.q_replay.proofs.Replaying.{may_begin, some_given}
use Rattle.q_listen.proofs.listening.listen.Goals as goal

pub listen_on-requires-clause-ready : goal.listen_on-requires-clause-ready
listen_on-requires-clause-ready g c = record {
  going = record { ready = c.in-Ok.ensures.ready; timed = λ is. absurd cc };
  stands = λ t.
      let u = g.H.Host.view c.args.host.now in
      let settings = c.intake_params-settings.result in
      let (w, b, given) = some_given settings c.args.table u (c.requires.spool t) (c.in-Ok.ensures.undamaged t) in
      let took = c.in-Ok.ensures.ok t w (opening Intake b) (may_begin settings c.args.table Intake w b u given) in
      (w, _, took.stands);
  few = omega arith;
}

pub returns-in-Ok-clause-ends : goal.returns-in-Ok-clause-ends
returns-in-Ok-clause-ends g c t b h orderly asked settings_are table_is =
    let view = g.H.Host.view in
    let w = intake_world asked in
    let u = view c.args.host.now in
    let v = view c.begin_life.new.host in
    let x = view c.listen_on.new.host in
    let settings = c.intake_params-settings.result in
    let lawful : TellsCrashes u = record { only = g.met.H.Host.only_now c.args.host.now; told = g.met.H.Host.told_stays c.args.host.now } in
    let z : Outside = record { clock = g.C.Clock.given c.args.clock.now; door = g.D.Door.view c.args.door.now } in
    let o : Outsides = record { before = z; behind = record { clock = g.C.Clock.given c.listen_on.new.clock; door = g.D.Door.view c.listen_on.new.door } } in
    let given = given_intake c.args.params settings c.args.table asked b u c.intake_params-settings.ensures.exact h orderly settings_are table_is in
    let took = c.in-Ok.ensures.ok t w (opening Intake b) (may_begin settings c.args.table Intake w b u given) in
    listen_same asked b o u x c.args.port c.args.count c.listen_on.result
    (c.listen_on.ensures.ends t (record { host = c.args.host.now; world = w; book = b; outside = z }) (begins_to w b view c.args.host.now z v c.in-Ok.engine lawful given.host took))

pub returns-in-Ok-clause-damaged : goal.returns-in-Ok-clause-damaged
returns-in-Ok-clause-damaged g c t area name damage = absurd (c.in-Ok.ensures.undamaged t area name damage)

pub returns-in-Err-clause-ends : goal.returns-in-Err-clause-ends
returns-in-Err-clause-ends g c t b h orderly asked settings_are table_is =
    let view = g.H.Host.view in
    let w = intake_world asked in
    let u = view c.args.host.now in
    let v = view c.begin_life.new.host in
    let settings = c.intake_params-settings.result in
    let lawful : TellsCrashes u = record { only = g.met.H.Host.only_now c.args.host.now; told = g.met.H.Host.told_stays c.args.host.now } in
    let z : Outside = record { clock = g.C.Clock.given c.args.clock.now; door = g.D.Door.view c.args.door.now } in
    let given = given_intake c.args.params settings c.args.table asked b u c.intake_params-settings.ensures.exact h orderly settings_are table_is in
    rw c.listen_error.ensures (listen_same asked b (record { before = z; behind = z }) u v c.args.port c.args.count (Err (listen_error c.in-Err.error))
    (never_begins w b z u v c.args.port c.args.count lawful given.host c.in-Err.error (c.in-Err.ensures.err t w (opening Intake b) (may_begin settings c.args.table Intake w b u given))))

pub returns-in-Err-clause-damaged : goal.returns-in-Err-clause-damaged
returns-in-Err-clause-damaged g c t area name damage =
    rw c.listen_error.ensures (damage_passed area name (g.H.Host.view c.args.host.now) (g.H.Host.view c.begin_life.new.host) c.in-Err.error (c.in-Err.ensures.damaged t area name damage))

pub returns-in-Err-clause-only_damaged : goal.returns-in-Err-clause-only_damaged
returns-in-Err-clause-only_damaged g c t =
    rw c.listen_error.ensures (damage_only (g.H.Host.view c.begin_life.new.host) c.in-Err.error (c.in-Err.ensures.only_damaged t))
