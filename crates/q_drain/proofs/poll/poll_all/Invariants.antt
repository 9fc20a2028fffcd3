use Rattle.std.proofs.Common.{◌≡◌, ◌≤◌, ◌+◌, [], false, IsTrue, List, Option, true, ℕ}
use Rattle.q_agent.specs.Sessions.{is_sweep_over}
use Rattle.q_agent.specs.WaitsLeft.{waits_left}
use Rattle.q_drain.specs.Polling.{IsPolling, KeepsSame}
use Rattle.q_drain.specs.Progress.{LeavesLess, polls_left, work_left}
use Rattle.q_drain.specs.Served.{ForServed, MayServe, ServedOn}
use Rattle.q_drain.specs.Waits.{idle}
use Rattle.q_engine.specs.Stands.{IsReady}
use Rattle.q_link.specs.WaitsLeft.{Spares}
use Rattle.q_drain.proofs.poll.poll_all.Given as goal

abbrev pub invariant-polls : goal.invariant-polls
invariant-polls g l =
    let view = g.H.Host.view in
    let hops = g.N.Hops.view in
    let faults = g.H.Host.faults in
    record {
      ready : IsReady l.served.engine;
      timed : l.served.engine.core.value.timed ≡ true;
      polling : IsPolling l.agent (l.served.known + 1);
      same : KeepsSame l.fn.begun.busy l.served.busy l.fn.begun.known l.served.known l.fn.agent l.agent;
      left : LeavesLess l.fn.begun.busy l.served.busy (work_left l.fn.begun.known l.fn.agent) (work_left l.served.known l.agent);
      spares : Spares 0 (waits_left (hops l.fn.hops) l.fn.agent) (waits_left (hops l.hops) l.agent);
      once : is_sweep_over l.agent ≡ true → is_sweep_over l.fn.agent ≡ false → Spares (idle l.served.busy) (waits_left (hops l.fn.hops) l.fn.agent) (waits_left (hops l.hops) l.agent);
      rests : (hops l.hops).rests ≡ (hops l.fn.hops).rests;
      may : IsTrue g.H.Host.tells → (clock : Option (List ℕ)) × MayServe clock (view l.fn.host) (hops l.fn.hops) l.fn.begun l.fn.agent;
      on : IsTrue g.H.Host.tells → ForServed l.fn.begun (view l.fn.host) (hops l.fn.hops) l.fn.agent (λ w k a clock s. ServedOn w k a (record { clock = clock; hops = hops l.hops }) (view l.fn.host) (view l.host) l.served l.agent [] s);
      disk_later : (faults l.fn.host).disk ≤ (faults l.host).disk;
      tell_later : (faults l.fn.host).tell ≤ (faults l.host).tell;
    }

-- each poll leaves fewer
abbrev pub decreases-polls : goal.decreases-polls
decreases-polls g l = polls_left l.served.known l.agent
