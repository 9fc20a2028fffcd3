use Rattle.std.proofs.Common.{refl}
use Rattle.q_books.specs.HostStands.{TellsCrashes}
use Rattle.q_engine.specs.Refusals.{refusal_of}
use Rattle.q_engine.specs.declared.error.EngineError.TheVariants as engine_errors
use Rattle.q_replay.proofs.DamagedSpools.{begun_damaged, begun_only, none_only, Unbegun}
use Rattle.q_replay.proofs.Named.{unbegun}
use Rattle.q_replay.proofs.Takings.{error_is, never_begins, took_life}
use Rattle.q_restart.proofs.OneSight.{sound-undamaged}
use Rattle.q_replay.proofs.Submitting.{ok_lists}
use Rattle.q_replay.proofs.Readable.{begun_readable}
use Rattle.q_replay.proofs.taking.begin_life.Goals as goal

pub returns-in-Ok-clause-ok : goal.returns-in-Ok-clause-ok
returns-in-Ok-clause-ok g c t w l may =
    let v = g.H.Host.view c.args.host.now in
    let lawful : TellsCrashes v = record { only = g.met.H.Host.only_now c.args.host.now; told = g.met.H.Host.told_stays c.args.host.now } in
    took_life c.args.params c.args.table c.args.mode w l v may lawful c.in-Ok.engine (g.H.Host.view c.begin.new.host) (c.in-Ok.ensures.ok t)

pub returns-in-Ok-clause-undamaged : goal.returns-in-Ok-clause-undamaged
returns-in-Ok-clause-undamaged g c t area name damage =
    let whole = (c.in-Ok.ensures.opened t).whole in
    sound-undamaged (g.H.Host.view c.args.host.now).files whole.boot whole.walk area name whole.shows whole.sound damage

pub returns-in-Err-clause-err : goal.returns-in-Err-clause-err
returns-in-Err-clause-err g c t w l may =
    let v = g.H.Host.view c.args.host.now in
    let error = c.in-Err.error in
    let lawful : TellsCrashes v = record { only = g.met.H.Host.only_now c.args.host.now; told = g.met.H.Host.told_stays c.args.host.now } in
    rw c.replay_error.ensures.exact (never_begins c.args.params c.args.table c.args.mode w l v may lawful c.args.line error (g.H.Host.view c.begin.new.host) (record {
      kinds = c.in-Err.ensures.kinds error refl;
      stops = λ fault is. c.in-Err.ensures.err fault (error_is error (refusal_of fault) is) t;
      untouched = λ of. c.in-Err.ensures.untouched error refl of t;
      damage = λ area name is. c.in-Err.ensures.damaged t area name (error_is error (engine_errors.Damaged area name) is);
      limit = λ bound is. c.in-Err.ensures.limit bound (error_is error (engine_errors.Limit bound) is);
      orderly = λ below. c.in-Err.ensures.orderly t l.book may.host may.orderly below error refl;
    }))

pub returns-in-Ok-clause-damaged : goal.returns-in-Ok-clause-damaged
returns-in-Ok-clause-damaged g c t area name damage =
    let whole = (c.in-Ok.ensures.opened t).whole in
    absurd (sound-undamaged (g.H.Host.view c.args.host.now).files whole.boot whole.walk area name whole.shows whole.sound damage)

pub returns-in-Ok-clause-only_damaged : goal.returns-in-Ok-clause-only_damaged
returns-in-Ok-clause-only_damaged g c t = none_only (g.H.Host.view c.begin.new.host) c.in-Ok.engine

pub returns-in-Err-clause-damaged : goal.returns-in-Err-clause-damaged
returns-in-Err-clause-damaged g c t area name damage =
    let v = g.H.Host.view c.args.host.now in
    let x = g.H.Host.view c.begin.new.host in
    let error = c.in-Err.error in
    let u : Unbegun error v x = record {
      kinds = c.in-Err.ensures.kinds error refl;
      damage = λ a n is. c.in-Err.ensures.damaged t a n (error_is error (engine_errors.Damaged a n) is);
      spent = λ bound is. c.in-Err.ensures.spent bound (error_is error (engine_errors.Limit bound) is) t;
      untouched = λ of. c.in-Err.ensures.untouched error refl of t;
      unbegun = c.in-Err.ensures.unbegun t;
    } in
    rw c.replay_error.ensures.exact (begun_damaged v x c.args.line area name damage error u)

pub returns-in-Err-clause-only_damaged : goal.returns-in-Err-clause-only_damaged
returns-in-Err-clause-only_damaged g c t =
    let v = g.H.Host.view c.args.host.now in
    let x = g.H.Host.view c.begin.new.host in
    let error = c.in-Err.error in
    let u : Unbegun error v x = record {
      kinds = c.in-Err.ensures.kinds error refl;
      damage = λ a n is. c.in-Err.ensures.damaged t a n (error_is error (engine_errors.Damaged a n) is);
      spent = λ bound is. c.in-Err.ensures.spent bound (error_is error (engine_errors.Limit bound) is) t;
      untouched = λ of. c.in-Err.ensures.untouched error refl of t;
      unbegun = c.in-Err.ensures.unbegun t;
    } in
    rw c.replay_error.ensures.exact (begun_only v x c.args.line error u)

pub returns-in-Ok-clause-cause : goal.returns-in-Ok-clause-cause
returns-in-Ok-clause-cause g c = ok_lists (g.H.Host.faults c.args.host.now) (g.H.Host.faults c.begin.new.host) c.in-Ok.engine c.begin.ensures.cause.disk_later c.begin.ensures.cause.tell_later

pub returns-in-Err-clause-readable : goal.returns-in-Err-clause-readable
returns-in-Err-clause-readable g c t = rw c.replay_error.ensures.exact (begun_readable c.args.line c.in-Err.error (c.in-Err.ensures.kinds c.in-Err.error refl))

pub returns-in-Err-clause-named : goal.returns-in-Err-clause-named
returns-in-Err-clause-named g c = rw c.replay_error.ensures.exact (unbegun c.args.line c.in-Err.error (c.in-Err.ensures.kinds c.in-Err.error refl) c.in-Err.ensures.some)
