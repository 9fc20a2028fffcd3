use Rattle.std.proofs.Common.{◌≡◌, ◌≤◌, ◌+◌, ◌-◌, ◌++◌, IsTrue, length, List, Option, ℕ}
use Rattle.q_agent.specs.WaitsLeft.{waits_left}
use Rattle.q_drain.proofs.OpeningAll.{OpenedSome}
use Rattle.q_drain.specs.Opened.{ForServing, IsServing, MayOpenAll}
use Rattle.q_drain.specs.Polling.{IsPolling}
use Rattle.q_drain.specs.Progress.{OpensUpTo}
use Rattle.q_link.specs.WaitsLeft.{Spares}
use Rattle.q_drain.proofs.opening.open_started.Given as goal

abbrev pub invariant-loop-number : goal.invariant-loop-number
invariant-loop-number g l =
    let view = g.H.Host.view in
    let hops = g.N.Hops.view in
    let faults = g.H.Host.faults in
    record {
      some : IsTrue g.H.Host.tells → (clock : Option (List ℕ)) × MayOpenAll clock (view l.fn.host) (hops l.fn.hops) l.engine l.fn.agent l.known;
      opened : IsTrue g.H.Host.tells → ForServing (λ w l2 a clock early waiting fs s. length early ≡ l.known → IsServing w l2 a (record { clock = clock; hops = hops l.fn.hops }) (view l.fn.host) l.engine l.fn.agent early waiting fs s
          → OpenedSome w l2 a clock (view l.fn.host) (view l.host) l.engine (hops l.hops) l.agent (early ++ waiting) s l.number);
      polling : IsPolling l.agent (l.number + 1);
      known : l.known ≤ l.number;
      opens : OpensUpTo l.known l.number l.fn.agent l.agent;
      spares : Spares 0 (waits_left (hops l.fn.hops) l.fn.agent) (waits_left (hops l.hops) l.agent);
      polled : l.agent.polled ≡ l.fn.agent.polled;
      rests : (hops l.hops).rests ≡ (hops l.fn.hops).rests;
      disk_later : (faults l.fn.host).disk ≤ (faults l.host).disk;
      tell_later : (faults l.fn.host).tell ≤ (faults l.host).tell;
    }

abbrev pub decreases-loop-number : goal.decreases-loop-number
decreases-loop-number g l = l.last - l.number
