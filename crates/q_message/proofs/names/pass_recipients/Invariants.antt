use Rattle.std.proofs.Common.{◌+◌, ◌≤◌, ℕ, IsTrue, length}
use Rattle.q_model.specs.QueueFile.{FileMessage}
use Rattle.q_host.specs.Calls.{Stays}
use Rattle.q_message.specs.Names.{StandsAt}
use Rattle.q_message.proofs.names.pass_recipients.Given as goal

abbrev pub invariant-loop : goal.invariant-loop
invariant-loop g l =
    let view = g.H.Host.view in
    let faults = g.H.Host.faults in
    record {
      stays : IsTrue g.H.Host.tells → Stays (view l.fn.host) (view l.host);
      disk_later : (faults l.fn.host).disk ≤ (faults l.host).disk;
      tell_later : (faults l.fn.host).tell ≤ (faults l.host).tell;
      stands : IsTrue g.H.Host.tells → (m : FileMessage) (i : ℕ) → StandsAt ((view l.fn.host).files l.spot.area l.spot.name) m i l.fn.window → i + l.counter ≤ length m.recipients
          → StandsAt ((view l.fn.host).files l.spot.area l.spot.name) m (i + l.counter) l.window;
    }
