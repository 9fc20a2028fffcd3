use Rattle.std.proofs.Common.{◌≤◌, IsTrue, List}
use Rattle.q_model.specs.Book.{Book}
use Rattle.q_model.specs.FilesStand.{Stands}
use Rattle.q_model.specs.Message.{Message}
use Rattle.q_telling.specs.Telling.{OnlyTells}
use Rattle.q_views.specs.JsonLines.{json_line_in}
use Rattle.q_walk.specs.Walks.{IsAhead, walk_left}
use Rattle.q_views.proofs.LineLaws.{AreToldTo}
use Rattle.q_views.proofs.json.tell_lines.Given as goal

abbrev pub invariant-loop-found : goal.invariant-loop-found
invariant-loop-found g l =
    let view = g.H.Host.view in
    let faults = g.H.Host.faults in
    record {
      told : IsTrue g.H.Host.tells → (b : Book) → (ms : List Message) → Stands (view l.fn.host).files b → IsAhead (view l.fn.host).files b l.fn.walk ms
          → AreToldTo json_line_in (view l.fn.host).files b ms l.walk (view l.fn.host) (view l.host);
      only : IsTrue g.H.Host.tells → OnlyTells (view l.fn.host) (view l.host);
      disk_later : (faults l.fn.host).disk ≤ (faults l.host).disk;
      tell_later : (faults l.fn.host).tell ≤ (faults l.host).tell;
    }

-- each that is told leaves fewer
abbrev pub decreases-loop-found : goal.decreases-loop-found
decreases-loop-found g l = walk_left l.walk
