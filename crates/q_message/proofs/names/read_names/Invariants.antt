use Rattle.std.proofs.Common.{◌≡◌, ◌<◌, ◌≤◌, IsTrue, length, map, take}
use Rattle.std.specs.List.{All}
use Rattle.q_model.specs.QueueFile.{FileMessage}
use Rattle.q_host.specs.Calls.{Stays}
use Rattle.q_message.specs.Names.{StandsAt, receiver_in}
use Rattle.q_message.proofs.names.read_names.Given as goal

abbrev pub invariant-loop-position : goal.invariant-loop-position
invariant-loop-position g l =
    let view = g.H.Host.view in
    let faults = g.H.Host.faults in
    record {
      stays : IsTrue g.H.Host.tells → Stays (view l.fn.host) (view l.host);
      disk_later : (faults l.fn.host).disk ≤ (faults l.host).disk;
      tell_later : (faults l.fn.host).tell ≤ (faults l.host).tell;
      reads : IsTrue g.H.Host.tells → (m : FileMessage) → StandsAt ((view l.fn.host).files l.spot.area l.spot.name) m 0 l.initial.window → All (λ p. p < length m.recipients) l.fn.positions
          → StandsAt ((view l.fn.host).files l.spot.area l.spot.name) m l.from l.window × (l.names ≡ map (receiver_in m) (take l.position-index l.fn.positions));
    }
