use Rattle.std.proofs.Common.{◌≡◌, ◌+◌, ◌-◌, ◌≤◌, List, ℕ, Some, IsTrue, length}
use Rattle.q_model.specs.QueueFile.{FileMessage, queue_file}
use Rattle.q_host.specs.Calls.{Stays}
use Rattle.q_message.proofs.PendingLaws.{IsReading}
use Rattle.q_message.proofs.recipients.read_recipients.Given as goal

abbrev pub invariant-loop-position : goal.invariant-loop-position
invariant-loop-position g l =
    let view = g.H.Host.view in
    let faults = g.H.Host.faults in
    record {
      stays : IsTrue g.H.Host.tells → Stays (view l.fn.host) (view l.host);
      disk_later : (faults l.fn.host).disk ≤ (faults l.host).disk;
      tell_later : (faults l.fn.host).tell ≤ (faults l.host).tell;
      room : l.out.room ≡ l.fn.out.room;
      few : length l.out.items ≤ l.max;
      less : l.recipients - l.position + length l.out.items ≤ l.recipients - l.fn.cursor.position;
      reads : IsTrue g.H.Host.tells → (bytes : List ℕ) → (view l.fn.host).files l.spot.area l.spot.name ≡ Some bytes → (m : FileMessage) → queue_file bytes ≡ Some m
          → IsReading bytes m l.fn.cursor.position l.max l.window l.out.items l.position;
    }

abbrev pub decreases-loop-position : goal.decreases-loop-position
decreases-loop-position g l = l.recipients - l.position
