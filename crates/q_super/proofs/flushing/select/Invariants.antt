use Rattle.std.proofs.Common.{◌≡◌, ◌≤◌, filter, IsTrue, take, true}
use Rattle.std.specs.List.{AllByRecursion}
use Rattle.q_host.specs.Calls.{Stays}
use Rattle.q_model.specs.Book.{Book}
use Rattle.q_model.specs.FilesStand.{Stands}
use Rattle.q_super.specs.Deeds.{is_file_for}
use Rattle.q_super.specs.Moves.{stands_there}
use Rattle.q_super.specs.Names.{AreSources}
use Rattle.q_super.specs.declared.acts.Act.TheVariants as acts
use Rattle.q_super.proofs.flushing.select.Given as goal

-- those of the first files
abbrev pub invariant-loop-file : goal.invariant-loop-file
invariant-loop-file g l =
    let view = g.H.Host.view in
    let faults = g.H.Host.faults in
    record {
      sources : AreSources acts.Requeue l.found.items;
      selected : IsTrue g.H.Host.tells → (b : Book) → Stands (view l.fn.host).files b → AllByRecursion (λ s. stands_there b s ≡ true) l.files → l.found.items ≡ filter (is_file_for l.domain b) (take l.file-index l.files);
      stays : IsTrue g.H.Host.tells → Stays (view l.fn.host) (view l.host);
      disk_later : (faults l.fn.host).disk ≤ (faults l.host).disk;
      tell_later : (faults l.fn.host).tell ≤ (faults l.host).tell;
    }
