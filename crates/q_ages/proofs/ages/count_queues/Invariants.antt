use Rattle.std.proofs.Common.{◌≤◌, IsTrue}
use Rattle.q_ages.proofs.QueueLaws.{HasQueued}
use Rattle.q_ages.specs.Counting.{counts_of}
use Rattle.q_host.specs.Calls.{Stays}
use Rattle.q_model.specs.Book.{Book}
use Rattle.q_model.specs.FilesStand.{Stands}
use Rattle.q_walk.specs.Listed.{listed}
use Rattle.q_walk.specs.Walks.{walk_left}
use Rattle.q_ages.proofs.ages.count_queues.Given as goal

abbrev pub invariant-loop-walk : goal.invariant-loop-walk
invariant-loop-walk g l =
    let view = g.H.Host.view in
    let faults = g.H.Host.faults in
    record {
      left : IsTrue g.H.Host.tells → (b : Book) → Stands (view l.fn.host).files b → HasQueued (view l.fn.host).files b (counts_of l.fn.request.senders l.fn.now) l.fn.table l.table l.walk (listed l.fn.request.queues b);
      stays : IsTrue g.H.Host.tells → Stays (view l.fn.host) (view l.host);
      disk_later : (faults l.fn.host).disk ≤ (faults l.host).disk;
      tell_later : (faults l.fn.host).tell ≤ (faults l.host).tell;
    }

-- each that is counted leaves fewer
abbrev pub decreases-loop-walk : goal.decreases-loop-walk
decreases-loop-walk g l = walk_left l.walk
