use Rattle.std.proofs.Common.{◌≡◌, ◌≤◌, ◌+◌, ◌-◌, false, IsTrue, true}
use Rattle.q_agent.specs.WaitsLeft.{waits_left}
use Rattle.q_drain.proofs.Exiting.{DrainsSo}
use Rattle.q_drain.specs.Drained.{CountsRests}
use Rattle.q_drain.specs.Exits.{ForStarted, MayStart}
use Rattle.q_drain.specs.Polling.{AreInOrder}
use Rattle.q_drain.specs.Progress.{work_left}
use Rattle.q_engine.specs.Stands.{IsReady}
use Rattle.q_link.specs.WaitsLeft.{Spares}
use Rattle.q_drain.proofs.driver.make_sweeps.Given as goal

abbrev pub invariant-sweeps : goal.invariant-sweeps
invariant-sweeps g l =
    let view = g.H.Host.view in
    let hops = g.N.Hops.view in
    let given = g.C.Clock.given in
    let faults = g.H.Host.faults in
    record {
      ready : IsReady l.served.engine;
      timed : l.first ≡ false → l.served.engine.core.value.timed ≡ true;
      order : AreInOrder l.agent.listed (l.served.known + 1);
      few : l.given ≤ l.rests;
      counts : CountsRests (hops l.fn.hops) (hops l.hops) l.given;
      spares : Spares l.given (hops l.fn.hops).waits_left (waits_left (hops l.hops) l.agent);
      may : IsTrue g.H.Host.tells → MayStart l.fn.engine (view l.fn.host);
      so : IsTrue g.H.Host.tells → ForStarted l.fn.engine (view l.fn.host) (λ w k. DrainsSo w k (record { clock = given l.fn.clock; hops = hops l.fn.hops }) (record { clock = given l.clock; hops = hops l.hops }) (view l.fn.host) (view l.host) l.served.engine l.agent.listed l.served.known l.first l.given);
      disk_later : (faults l.fn.host).disk ≤ (faults l.host).disk;
      tell_later : (faults l.fn.host).tell ≤ (faults l.host).tell;
    }

-- each sweep begins or ends a delivery, or a rest is given behind it
abbrev pub decreases-sweeps : goal.decreases-sweeps
decreases-sweeps g l = work_left l.served.known l.agent + (l.rests - l.given)
