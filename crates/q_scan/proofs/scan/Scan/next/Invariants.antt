use Rattle.std.proofs.Common.{◌≡◌, ◌≤◌, IsTrue, List, ℕ}
use Rattle.q_host.specs.Calls.{Stays}
use Rattle.q_host.specs.NamesLeft.{names_left}
use Rattle.q_host.specs.Reads.{IsAfter}
use Rattle.q_scan.proofs.WalkLaws.{HasWalked}
use Rattle.q_scan.proofs.scan.Scan.next.Given as goal

abbrev pub invariant-loop-self : goal.invariant-loop-self
invariant-loop-self g l =
    let view = g.H.Host.view in
    let faults = g.H.Host.faults in
    record {
      area : l.self.area ≡ l.fn.self.area;
      fewer : names_left l.self.place ≤ names_left l.fn.self.place;
      behind : (n : List ℕ) → IsAfter l.self.place n → IsAfter l.fn.self.place n;
      walked : IsTrue g.H.Host.tells → HasWalked (view l.fn.host).files l.fn.self l.self;
      stays : IsTrue g.H.Host.tells → Stays (view l.fn.host) (view l.host);
      disk_later : (faults l.fn.host).disk ≤ (faults l.host).disk;
      tell_later : (faults l.fn.host).tell ≤ (faults l.host).tell;
    }

-- each name that is passed over leaves fewer
abbrev pub decreases-loop-self : goal.decreases-loop-self
decreases-loop-self g l = names_left l.self.place
