use Rattle.std.proofs.Common.{subst}
use Rattle.std.specs.Prelude.{Ok, Option}
use Rattle.q_listen.proofs.Counting.{bound_counted, given_counted}
use Rattle.q_listen.proofs.Ending.{bind_failed, bind_goes, bind_spent, left_off, listens_to_all, never_ends, refused_ends}
use Rattle.q_listen.specs.ListenEnds.{Outside}
use Rattle.q_listen.specs.Listens.{ServesClosed}
use Rattle.q_listen.specs.Phases.{CountedTo, GivesUp, ServedTo}
use Rattle.q_listen.specs.Runs.{ledger_of}
use Rattle.q_listen.specs.Sessions.{IsBetween}
use Rattle.q_listen.specs.declared.hearing.Life.{Life}
use Rattle.q_listen.specs.declared.listened.ListenError.TheVariants as errors
use Rattle.q_listen.proofs.listening.listen_on.Goals as goal

pub returns-in-Err-Failed-clause-ends : goal.returns-in-Err-Failed-clause-ends
returns-in-Err-Failed-clause-ends g c t o goes =
    let view = g.H.Host.view in
    let u = view c.args.host.now in
    let clock = g.C.Clock.given c.args.clock.now in
    let d = g.D.Door.view c.args.door.now in
    let e = g.D.Door.view c.bind.new.self in
    refused_ends view o (record { clock = clock; door = e }) u c.args.port c.args.count errors.Door
    (bind_failed view o clock d e u c.args.life c.args.port c.args.count c.in-Err-Failed.field-0 c.in-Err-Failed.ensures.binds goes)

pub returns-in-Err-NoMemory-clause-ends : goal.returns-in-Err-NoMemory-clause-ends
returns-in-Err-NoMemory-clause-ends g c t o goes =
    let view = g.H.Host.view in
    let u = view c.args.host.now in
    let clock = g.C.Clock.given c.args.clock.now in
    let d = g.D.Door.view c.args.door.now in
    let e = g.D.Door.view c.bind.new.self in
    refused_ends view o (record { clock = clock; door = e }) u c.args.port c.args.count errors.NoMemory
    (bind_spent view o clock d e u c.args.life c.args.port c.args.count c.in-Err-NoMemory.field-0 c.in-Err-NoMemory.ensures.binds goes)

pub returns-in-Ok-end-clause-ends : goal.returns-in-Ok-end-clause-ends
returns-in-Ok-end-clause-ends g c t o goes =
    let view = g.H.Host.view in
    let u = view c.args.host.now in
    let m = view c.serve_links.new.host in
    let clock = g.C.Clock.given c.args.clock.now in
    let d = g.D.Door.view c.args.door.now in
    let e = g.D.Door.view c.bind.new.self in
    let z : Outside = record { clock = g.C.Clock.given c.serve_links.new.clock; door = g.D.Door.view c.serve_links.new.door } in
    let bound = bind_goes view o clock d e u c.args.life c.args.port c.args.count c.in-Ok.field-0 c.in-Ok.ensures.binds goes in
    let served = subst (λ (life : Option Life). ServedTo view o z m (IsBetween (record { port = c.args.port; count = c.args.count; served = c.args.count })) (ServesClosed c.args.count) (GivesUp c.args.count) c.args.rests (Ok life)) c.in-Ok-Some.field-0-is
    (c.in-Ok-Some.ensures.serves t o c.args.port bound) in
    listens_to_all view o z (view c.end.new.host) c.args.port c.args.count c.in-Ok-Some.last m served
    (c.in-Ok-end.ensures.ok t o.world (ledger_of o.world o.book (served.story).told) (served.course).stands)

pub returns-in-Err-end-clause-ends : goal.returns-in-Err-end-clause-ends
returns-in-Err-end-clause-ends g c t o goes =
    let view = g.H.Host.view in
    let u = view c.args.host.now in
    let m = view c.serve_links.new.host in
    let clock = g.C.Clock.given c.args.clock.now in
    let d = g.D.Door.view c.args.door.now in
    let e = g.D.Door.view c.bind.new.self in
    let z : Outside = record { clock = g.C.Clock.given c.serve_links.new.clock; door = g.D.Door.view c.serve_links.new.door } in
    let bound = bind_goes view o clock d e u c.args.life c.args.port c.args.count c.in-Ok.field-0 c.in-Ok.ensures.binds goes in
    let served = subst (λ (life : Option Life). ServedTo view o z m (IsBetween (record { port = c.args.port; count = c.args.count; served = c.args.count })) (ServesClosed c.args.count) (GivesUp c.args.count) c.args.rests (Ok life)) c.in-Ok-Some.field-0-is
    (c.in-Ok-Some.ensures.serves t o c.args.port bound) in
    rw c.listen_error.ensures (never_ends view o z (view c.end.new.host) c.args.port c.args.count c.in-Ok-Some.last m served c.in-Err-end.error
    (c.in-Err-end.ensures.err t o.world (ledger_of o.world o.book (served.story).told) (served.course).stands))

pub returns-in-Ok-None-clause-ends : goal.returns-in-Ok-None-clause-ends
returns-in-Ok-None-clause-ends g c t o goes =
    let view = g.H.Host.view in
    let u = view c.args.host.now in
    let m = view c.serve_links.new.host in
    let clock = g.C.Clock.given c.args.clock.now in
    let d = g.D.Door.view c.args.door.now in
    let e = g.D.Door.view c.bind.new.self in
    let z : Outside = record { clock = g.C.Clock.given c.serve_links.new.clock; door = g.D.Door.view c.serve_links.new.door } in
    let bound = bind_goes view o clock d e u c.args.life c.args.port c.args.count c.in-Ok.field-0 c.in-Ok.ensures.binds goes in
    left_off view o z m c.args.port c.args.count c.args.rests
    (subst (λ (life : Option Life). ServedTo view o z m (IsBetween (record { port = c.args.port; count = c.args.count; served = c.args.count })) (ServesClosed c.args.count) (GivesUp c.args.count) c.args.rests (Ok life)) c.in-Ok-None.field-0-is
    (c.in-Ok-None.ensures.serves t o c.args.port bound))

pub returns-in-Ok-None-clause-few : goal.returns-in-Ok-None-clause-few
returns-in-Ok-None-clause-few g c n is =
    let d = g.D.Door.view c.args.door.now in
    let e = g.D.Door.view c.bind.new.self in
    let y = g.D.Door.view c.serve_links.new.door in
    let counted = given_counted d e e.waits_left 0 c.args.life.given c.requires.none (bound_counted d e c.args.port (Ok c.in-Ok.field-0) c.in-Ok.ensures.binds) in
    (subst (λ (life : Option Life). CountedTo d y c.args.rests (Ok life)) c.in-Ok-None.field-0-is (c.in-Ok-None.ensures.counts d counted)).few

pub returns-in-Err-clause-ends : goal.returns-in-Err-clause-ends
returns-in-Err-clause-ends g c t o goes =
    let view = g.H.Host.view in
    let u = view c.args.host.now in
    let m = view c.serve_links.new.host in
    let clock = g.C.Clock.given c.args.clock.now in
    let d = g.D.Door.view c.args.door.now in
    let e = g.D.Door.view c.bind.new.self in
    let z : Outside = record { clock = g.C.Clock.given c.serve_links.new.clock; door = g.D.Door.view c.serve_links.new.door } in
    let bound = bind_goes view o clock d e u c.args.life c.args.port c.args.count c.in-Ok.field-0 c.in-Ok.ensures.binds goes in
    refused_ends view o z m c.args.port c.args.count c.in-Err.error (c.in-Err.ensures.serves t o c.args.port bound)
