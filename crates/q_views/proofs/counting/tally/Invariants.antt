use Rattle.std.proofs.Common.{◌≤◌, IsTrue}
use Rattle.q_host.specs.Calls.{Stays}
use Rattle.q_model.specs.Book.{Book}
use Rattle.q_model.specs.FilesStand.{Stands}
use Rattle.q_walk.specs.Listed.{listed}
use Rattle.q_walk.specs.Walks.{IsAhead, walk_left}
use Rattle.q_listing.proofs.GoneLaws.{IsGoneTo}
use Rattle.q_views.proofs.TallyLaws.{IsTallied}
use Rattle.q_views.proofs.counting.tally.Given as goal

abbrev pub invariant-loop-walk : goal.invariant-loop-walk
invariant-loop-walk g l =
    let view = g.H.Host.view in
    let faults = g.H.Host.faults in
    record {
      counted : IsTrue g.H.Host.tells → (b : Book) → Stands (view l.fn.host).files b
          → IsGoneTo (listed l.fn.queues b) (IsAhead (view l.fn.host).files b l.walk) (IsTallied l.tally);
      stays : IsTrue g.H.Host.tells → Stays (view l.fn.host) (view l.host);
      disk_later : (faults l.fn.host).disk ≤ (faults l.host).disk;
      tell_later : (faults l.fn.host).tell ≤ (faults l.host).tell;
    }

-- each that is counted leaves fewer
abbrev pub decreases-loop-walk : goal.decreases-loop-walk
decreases-loop-walk g l = walk_left l.walk
