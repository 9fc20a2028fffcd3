use Rattle.std.proofs.Common.{◌≡◌, ◌≤◌, false, IsTrue}
use Rattle.q_listen.proofs.Loops.{SessionCounts, SessionGoes}
use Rattle.q_listen.specs.Phases.{IsReadyAt, KeepsDoor, left_over}
use Rattle.q_listen.proofs.serving.serve_session.Given as goal

abbrev pub invariant-polls : goal.invariant-polls
invariant-polls g l =
    let view = g.H.Host.view in
    let door = g.D.Door.view in
    let link = g.L.Link.view in
    let given = g.C.Clock.given in
    let faults = g.H.Host.faults in
    record {
      ready : IsReadyAt g.H.Host.tells l.rests (view l.host) l.life;
      heard : l.life.first ≡ false;
      goes_on : l.intake.over ≡ false;
      taken : l.intake.untaken ≡ false;
      so : IsTrue g.H.Host.tells → SessionGoes view (record { before = record { clock = given l.fn.clock; door = door l.fn.door }; behind = record { clock = given l.clock; door = door l.door } })
          (view l.fn.host) (view l.host) l.fn.life l.life (link l.fn.link) (link l.link) l.intake;
      counts : SessionCounts (door l.fn.door) (link l.fn.link) l.fn.life (door l.door) (link l.link) l.life;
      keeps : KeepsDoor (door l.fn.door) (door l.door);
      disk_later : (faults l.fn.host).disk ≤ (faults l.host).disk;
      tell_later : (faults l.fn.host).tell ≤ (faults l.host).tell;
    }

-- each poll gives a rest or takes a byte
abbrev pub decreases-polls : goal.decreases-polls
decreases-polls g l = left_over l.rests l.life l.intake
