use Rattle.std.proofs.Common.{◌≤◌, drop, IsTrue, List, take, ℕ}
use Rattle.std.specs.List.{Contains}
use Rattle.std.specs.Option.{IsSome}
use Rattle.q_restart.specs.Clearings.{DropsStrays, GoesBy, IsHandled}
use Rattle.q_restart.specs.Places.{is_placed}
use Rattle.q_restart.proofs.clearing.handle_logs.Given as goal

abbrev pub invariant-loop-name : goal.invariant-loop-name
invariant-loop-name g l =
    let view = g.H.Host.view in
    let faults = g.H.Host.faults in
    record {
      left : IsTrue g.H.Host.tells → (n : List ℕ) → Contains (drop l.name-index l.names) n → IsSome ((view l.host).files l.area n);
      done : IsTrue g.H.Host.tells → (n : List ℕ) → Contains (take l.name-index l.names) n → IsHandled (is_placed l.places) (view l.host) l.area n;
      goes : IsTrue g.H.Host.tells → GoesBy (DropsStrays (is_placed l.places)) (view l.fn.host) (view l.host);
      disk_later : (faults l.fn.host).disk ≤ (faults l.host).disk;
      tell_later : (faults l.fn.host).tell ≤ (faults l.host).tell;
    }
