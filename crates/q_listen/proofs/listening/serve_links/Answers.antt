use Rattle.std.proofs.Common.{◌≡◌, arith, subst}
use Rattle.std.specs.Prelude.{Ok, Option}
use Rattle.q_listen.specs.ListenEnds.{Outside}
use Rattle.q_listen.specs.Listens.{ServesClosed}
use Rattle.q_listen.specs.Phases.{GivesUp, GoesOn, ServedTo}
use Rattle.q_listen.specs.Serving.{next_task, Task}
use Rattle.q_listen.specs.Sessions.{IsBetween}
use Rattle.q_listen.specs.declared.hearing.Life.{Life}
use Rattle.q_listen.proofs.listening.serve_links.Goals as goal

pub returns-in-Ok-None-clause-serves : goal.returns-in-Ok-None-clause-serves
returns-in-Ok-None-clause-serves g c t o port goes =
    let k : Task = record { port = port; count = c.args.count; served = c.loop-link.link } in
    let z : Outside = record { clock = g.C.Clock.given c.serve_link.new.clock; door = g.D.Door.view c.serve_link.new.door } in
    subst (λ (served : Option Life). ServedTo g.H.Host.view o z (g.H.Host.view c.serve_link.new.host) (IsBetween (next_task k)) (ServesClosed c.args.count) (GivesUp c.args.count) c.args.rests (Ok served)) c.in-Ok-None.field-0-is
    (c.in-Ok-None.ensures.serves t o k c.loop-link-test.true (c.loop-link.invariant.so t o port goes))

pub returns-in-Err-clause-serves : goal.returns-in-Err-clause-serves
returns-in-Err-clause-serves g c t o port goes =
    let k : Task = record { port = port; count = c.args.count; served = c.loop-link.link } in
    c.in-Err.ensures.serves t o k c.loop-link-test.true (c.loop-link.invariant.so t o port goes)

pub returns-clause-serves : goal.returns-clause-serves
returns-clause-serves g c t o port goes =
    let z : Outside = record { clock = g.C.Clock.given c.loop-link.clock; door = g.D.Door.view c.loop-link.door } in
    let most = c.loop-link-test.false in
    let least = c.loop-link.auto.link-end in
    let all : c.loop-link.link ≡ c.args.count = omega (arith, most, least) in
    subst (λ n. GoesOn g.H.Host.view o z (g.H.Host.view c.loop-link.host) (IsBetween (record { port = port; count = c.args.count; served = n })) c.loop-link.life) all (c.loop-link.invariant.so t o port goes)
