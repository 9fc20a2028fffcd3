use Rattle.std.proofs.Common.{◌≤◌, IsTrue}
use Rattle.q_books.specs.HostStands.{HostStands}
use Rattle.q_model.specs.Book.{Book}
use Rattle.q_super.specs.GivingUp.{MayFail}
use Rattle.q_super.proofs.GivenUp.{FailedFront}
use Rattle.q_super.proofs.expiring.give_up.Given as goal

-- the first recipients were given up
abbrev pub invariant-loop-position : goal.invariant-loop-position
invariant-loop-position g l =
    let view = g.H.Host.view in
    let faults = g.H.Host.faults in
    record {
      front : IsTrue g.H.Host.tells → (b : Book) → HostStands (view l.fn.host) b → MayFail b l.id l.positions → FailedFront b l.id l.positions l.position-index (view l.fn.host) (view l.host);
      disk_later : (faults l.fn.host).disk ≤ (faults l.host).disk;
      tell_later : (faults l.fn.host).tell ≤ (faults l.host).tell;
    }
