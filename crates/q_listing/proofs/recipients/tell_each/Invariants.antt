use Rattle.std.proofs.Common.{◌+◌, ◌≡◌, ◌≤◌, IsTrue, List, ℕ}
use Rattle.std.specs.BTreeMap.{get}
use Rattle.std.specs.Ordering.{nat_cmp}
use Rattle.q_model.specs.Message.{Message}
use Rattle.q_pending.specs.Readings.{IsPendingAhead, IsReading, pending_left}
use Rattle.q_telling.specs.Telling.{OnlyTells}
use Rattle.q_listing.proofs.RecipientLaws.{AreToldTo}
use Rattle.q_listing.proofs.recipients.tell_each.Given as goal

abbrev pub invariant-loop-taken : goal.invariant-loop-taken
invariant-loop-taken g l =
    let view = g.H.Host.view in
    let faults = g.H.Host.faults in
    record {
      few : l.count + pending_left l.reader ≤ pending_left l.fn.reader;
      files : IsTrue g.H.Host.tells → (view l.host).files ≡ (view l.fn.host).files;
      reading : IsTrue g.H.Host.tells → IsReading (view l.host).files l.reader;
      told : IsTrue g.H.Host.tells → (m : Message) → (positions : List ℕ) → IsPendingAhead (view l.fn.host).files m l.fn.reader positions
          → AreToldTo (get nat_cmp l.codes) (view l.fn.host).files m positions l.reader l.count (view l.fn.host) (view l.host);
      only : IsTrue g.H.Host.tells → OnlyTells (view l.fn.host) (view l.host);
      disk_later : (faults l.fn.host).disk ≤ (faults l.host).disk;
      tell_later : (faults l.fn.host).tell ≤ (faults l.host).tell;
    }

-- each that is told leaves fewer
abbrev pub decreases-loop-taken : goal.decreases-loop-taken
decreases-loop-taken g l = pending_left l.reader
