use Rattle.std.proofs.Common.{◌≡◌, ◌+◌, ◌-◌, ◌*◌, ◌≤◌, List, ℕ, Some, IsTrue, drop}
use Rattle.q_host.specs.Calls.{Stays}
use Rattle.q_message.specs.Readings.{marks_counted, recipients_from}
use Rattle.q_message.specs.Windows.{Shows}
use Rattle.q_message.proofs.head.count_marked.Given as goal

abbrev pub invariant-loop : goal.invariant-loop
invariant-loop g l =
    let view = g.H.Host.view in
    let faults = g.H.Host.faults in
    record {
      stays : IsTrue g.H.Host.tells → Stays (view l.fn.host) (view l.host);
      disk_later : (faults l.fn.host).disk ≤ (faults l.host).disk;
      tell_later : (faults l.fn.host).tell ≤ (faults l.host).tell;
      counted : l.marked ≤ l.counter;
      near : l.window.at ≤ l.fn.window.at + 519 * l.counter;
      shows : IsTrue g.H.Host.tells → (file : List ℕ) → (view l.fn.host).files l.spot.area l.spot.name ≡ Some file → Shows file l.fn.window → Shows file l.window;
      reads : IsTrue g.H.Host.tells → (file : List ℕ) → (view l.fn.host).files l.spot.area l.spot.name ≡ Some file → Shows file l.fn.window
          → marks_counted l.marked (recipients_from l.version (l.recipients - l.counter) l.window.at (drop l.window.at file)) ≡ marks_counted 0 (recipients_from l.version l.recipients l.fn.window.at (drop l.fn.window.at file));
    }
