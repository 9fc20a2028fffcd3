use Rattle.std.proofs.Common.{arith, false, inl, refl}
use Rattle.q_listen.proofs.Moments.{heard_at, heard_same, IsNew, past_now, stopped_at}
use Rattle.q_listen.proofs.Refusing.{moment_kind}
use Rattle.q_listen.specs.Runs.{ledger_of}
use Rattle.q_listen.proofs.hearing.hear_moment.Goals.{else-not-life-via-then-not-life+else-moment-now, else-not-life-via-else-not-life}
use Rattle.q_listen.proofs.hearing.hear_moment.Goals as goal

pub returns-then-moment-now-clause-ok : goal.returns-then-moment-now-clause-ok
returns-then-moment-now-clause-ok g c t o s course =
    heard_same g.H.Host.view o (g.C.Clock.given c.args.clock.now) (g.C.Clock.given c.now-moment.new.self) (g.H.Host.view c.args.host.now) c.args.life s c.now-moment.result c.now-moment.ensures.given course
    c.now.result c.now.ensures.ledger c.if-not-life.true c.if-moment-now.true

pub returns-in-Ok-clause-ok : goal.returns-in-Ok-clause-ok
returns-in-Ok-clause-ok g c t o s course =
    let view = g.H.Host.view in
    let old = g.C.Clock.given c.args.clock.now in
    let new = g.C.Clock.given c.now-moment.new.self in
    let u = view c.args.host.now in
    let life = c.args.life in
    let moment = c.now-moment.result in
    let adds = c.now-moment.ensures.given in
    let is_new : IsNew view o old new u life s moment adds course = elim c.else-not-life.branch [
      | else-not-life-via-then-not-life+else-moment-now x ↦ past_now view o old new u life s moment adds course x.now.result x.now.ensures.ledger (omega (arith, x.if-moment-now.false))
      | else-not-life-via-else-not-life x ↦ inl x.if-not-life.false
    ] in
    heard_at view o old new u life s moment adds course is_new c.now-moment.ensures.within (record { engine = c.in-Ok.engine; given = life.given; first = false }) (view c.hear.new.host) refl refl
    (c.in-Ok.ensures.ok 0 t o.world (ledger_of o.world o.book s.told) course.stands)

pub returns-in-Ok-clause-stands : goal.returns-in-Ok-clause-stands
returns-in-Ok-clause-stands g c t =
    let (w, l, stands) = c.requires.stands t in
    let took = c.in-Ok.ensures.ok 0 t w l stands in
    (w, _, took.stands)

pub returns-in-Err-clause-err : goal.returns-in-Err-clause-err
returns-in-Err-clause-err g c t o s course =
    let view = g.H.Host.view in
    let old = g.C.Clock.given c.args.clock.now in
    let new = g.C.Clock.given c.now-moment.new.self in
    let u = view c.args.host.now in
    let life = c.args.life in
    let moment = c.now-moment.result in
    let adds = c.now-moment.ensures.given in
    let is_new : IsNew view o old new u life s moment adds course = elim c.else-not-life.branch [
      | else-not-life-via-then-not-life+else-moment-now x ↦ past_now view o old new u life s moment adds course x.now.result x.now.ensures.ledger (omega (arith, x.if-moment-now.false))
      | else-not-life-via-else-not-life x ↦ inl x.if-not-life.false
    ] in
    rw c.listen_error.ensures (stopped_at view o old new u life s moment adds course is_new c.now-moment.ensures.within c.in-Err.error (view c.hear.new.host) (moment_kind life.engine moment c.in-Err.error c.in-Err.ensures.named)
    (c.in-Err.ensures.err 0 t o.world (ledger_of o.world o.book s.told) course.stands))
