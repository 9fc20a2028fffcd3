use Rattle.std.proofs.Common.{List}
use Rattle.q_host.specs.Calls.{Stays}
use Rattle.q_load.proofs.Places.{IsCounted}
use Rattle.q_mem_host.specs.Left.{view_of}
use Rattle.q_model.specs.Book.{Book}
use Rattle.q_model.specs.FilesStand.{Stands}
use Rattle.q_model.specs.Message.{Message}
use Rattle.q_walk.specs.Walks.{IsAhead, walk_left}
use Rattle.q_load.proofs.remaining.count_messages.Given as goal

abbrev pub invariant-loop-count : goal.invariant-loop-count
invariant-loop-count l = record {
  stays : Stays (view_of l.fn.host) (view_of l.host);
  counted : (b : Book) (ms : List Message) → Stands (view_of l.fn.host).files b → IsAhead (view_of l.fn.host).files b l.fn.walk ms → IsCounted (view_of l.fn.host).files b l.walk l.count ms;
}

-- each that is counted leaves fewer
abbrev pub decreases-loop-count : goal.decreases-loop-count
decreases-loop-count l = walk_left l.walk
