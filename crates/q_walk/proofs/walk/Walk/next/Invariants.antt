use Rattle.std.proofs.Common.{◌≤◌, IsTrue, List}
use Rattle.q_host.specs.Calls.{Stays}
use Rattle.q_model.specs.Book.{Book}
use Rattle.q_model.specs.FilesStand.{Stands}
use Rattle.q_model.specs.Message.{Message}
use Rattle.q_walk.specs.Walks.{IsAhead, walk_left}
use Rattle.q_walk.proofs.walk.Walk.next.Given as goal

-- what was ahead at first is ahead still
abbrev pub invariant-loop-found : goal.invariant-loop-found
invariant-loop-found g l =
    let view = g.H.Host.view in
    let faults = g.H.Host.faults in
    record {
      ahead : IsTrue g.H.Host.tells → (b : Book) → (ms : List Message) → Stands (view l.fn.host).files b
          → IsAhead (view l.fn.host).files b l.fn.self ms → IsAhead (view l.fn.host).files b l.self ms;
      fewer : walk_left l.self ≤ walk_left l.fn.self;
      stays : IsTrue g.H.Host.tells → Stays (view l.fn.host) (view l.host);
      disk_later : (faults l.fn.host).disk ≤ (faults l.host).disk;
      tell_later : (faults l.fn.host).tell ≤ (faults l.host).tell;
    }

-- each step leaves fewer names
abbrev pub decreases-loop-found : goal.decreases-loop-found
decreases-loop-found g l = walk_left l.self
