use Rattle.std.proofs.Common.{◌≡◌, ◌≤◌, true, IsTrue}
use Rattle.q_listen.proofs.Loops.{LinksCount, LinksGo}
use Rattle.q_listen.specs.Phases.{IsReadyAt}
use Rattle.q_listen.proofs.listening.serve_links.Given as goal

abbrev pub invariant-loop-link : goal.invariant-loop-link
invariant-loop-link g l =
    let view = g.H.Host.view in
    let door = g.D.Door.view in
    let given = g.C.Clock.given in
    let faults = g.H.Host.faults in
    record {
      ready : IsReadyAt g.H.Host.tells l.rests (view l.host) l.life;
      bound : (door l.door).bound ≡ true;
      so : IsTrue g.H.Host.tells → LinksGo view (record { before = record { clock = given l.fn.clock; door = door l.fn.door }; behind = record { clock = given l.clock; door = door l.door } })
          (view l.fn.host) (view l.host) l.fn.life l.life l.count l.link;
      counts : LinksCount (door l.fn.door) l.fn.life (door l.door) l.life;
      later : (door l.fn.door).door_faults ≤ (door l.door).door_faults;
      disk_later : (faults l.fn.host).disk ≤ (faults l.host).disk;
      tell_later : (faults l.fn.host).tell ≤ (faults l.host).tell;
    }
