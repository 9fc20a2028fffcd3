use Rattle.std.proofs.Common.{◌≤◌, IsTrue, take}
use Rattle.q_host.specs.Calls.{Stays}
use Rattle.q_check.specs.QueueTexts.{IsQueueText}
use Rattle.q_check.proofs.TextLists.{AddsTexts}
use Rattle.q_check.proofs.queues.add_queues.Given as goal

abbrev pub invariant-loop-area : goal.invariant-loop-area
invariant-loop-area g l =
    let view = g.H.Host.view in
    let faults = g.H.Host.faults in
    record {
      adds : IsTrue g.H.Host.tells → AddsTexts (IsQueueText (view l.fn.host).files l.look) (take l.area-index l.areas) l.fn.text.items l.text.items;
      stays : IsTrue g.H.Host.tells → Stays (view l.fn.host) (view l.host);
      disk_later : (faults l.fn.host).disk ≤ (faults l.host).disk;
      tell_later : (faults l.fn.host).tell ≤ (faults l.host).tell;
    }
