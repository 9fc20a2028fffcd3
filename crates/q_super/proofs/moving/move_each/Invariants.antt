use Rattle.std.proofs.Common.{◌≡◌, ◌≤◌, ◌-◌, ◌^◌, IsTrue, length, min}
use Rattle.q_books.specs.HostStands.{HostStands}
use Rattle.q_model.specs.Book.{Book}
use Rattle.q_super.specs.Moves.{AreThere}
use Rattle.q_super.proofs.ToldMoves.{MovedFront}
use Rattle.q_super.proofs.moving.move_each.Given as goal

-- the first files moved and were told
abbrev pub invariant-loop-from : goal.invariant-loop-from
invariant-loop-from g l =
    let view = g.H.Host.view in
    let faults = g.H.Host.faults in
    record {
      front : IsTrue g.H.Host.tells → (b : Book) → HostStands (view l.fn.host) b → AreThere b l.files → MovedFront b l.word l.to l.files l.from-index (view l.fn.host) (view l.host) × (l.count ≡ min l.from-index (2 ^ 32 - 1));
      within : l.from-index ≤ length l.files;
      disk_later : (faults l.fn.host).disk ≤ (faults l.host).disk;
      tell_later : (faults l.fn.host).tell ≤ (faults l.host).tell;
    }
