use Rattle.q_listen.proofs.Going.{accept_failed, accept_goes, accept_spent, closed_to, unrecorded_to}
use Rattle.q_listen.proofs.serving.serve_link.Goals as goal

pub returns-in-Err-Failed-clause-serves : goal.returns-in-Err-Failed-clause-serves
returns-in-Err-Failed-clause-serves g c t o k more goes =
    accept_failed g.H.Host.view o (g.C.Clock.given c.args.clock.now) (g.D.Door.view c.args.door.now) (g.D.Door.view c.accept.new.self) (g.H.Host.view c.args.host.now) k more c.args.life c.accept.ensures.accepts goes

pub returns-in-Err-NoMemory-clause-serves : goal.returns-in-Err-NoMemory-clause-serves
returns-in-Err-NoMemory-clause-serves g c t o k more goes =
    accept_spent g.H.Host.view o (g.C.Clock.given c.args.clock.now) (g.D.Door.view c.args.door.now) (g.D.Door.view c.accept.new.self) (g.H.Host.view c.args.host.now) k more c.args.life c.accept.ensures.accepts goes

pub returns-in-Ok-close-clause-serves : goal.returns-in-Ok-close-clause-serves
returns-in-Ok-close-clause-serves g c t o k more goes =
    let view = g.H.Host.view in
    let u = view c.args.host.now in
    let old = g.C.Clock.given c.args.clock.now in
    let door = g.D.Door.view in
    let link = g.L.Link.view in
    let accepted = accept_goes view o old (door c.args.door.now) (door c.accept.new.self) u k more c.args.life c.accept.ensures.accepts (link c.in-Ok.link) c.in-Ok.ensures.fresh goes in
    closed_to view o (g.C.Clock.given c.serve_session-served.new.clock) (door c.serve_session-served.new.door) (door c.close.new.self) (view c.serve_session-served.new.host) k (link c.serve_session-served.new.link) c.args.rests
    c.in-Ok-close.ensures.ok c.serve_session-served.result c.serve_session-served.ensures.no_door (c.serve_session-served.ensures.serves t o k accepted)

pub returns-in-Err-clause-serves : goal.returns-in-Err-clause-serves
returns-in-Err-clause-serves g c t o k more goes =
    let view = g.H.Host.view in
    let u = view c.args.host.now in
    let old = g.C.Clock.given c.args.clock.now in
    let door = g.D.Door.view in
    let link = g.L.Link.view in
    let accepted = accept_goes view o old (door c.args.door.now) (door c.accept.new.self) u k more c.args.life c.accept.ensures.accepts (link c.in-Ok.link) c.in-Ok.ensures.fresh goes in
    rw c.unrecorded.ensures (unrecorded_to view o (g.C.Clock.given c.serve_session-served.new.clock) (door c.serve_session-served.new.door) (door c.close.new.self) (view c.serve_session-served.new.host) k (link c.serve_session-served.new.link) c.args.rests
    c.in-Err.ensures.err c.serve_session-served.result c.serve_session-served.ensures.no_door (c.serve_session-served.ensures.serves t o k accepted))
