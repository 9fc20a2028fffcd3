use Rattle.std.proofs.Common.{◌≡◌, true}
use Rattle.q_tcp_hops.proofs.door.TcpDoor.accept_next.Given as goal

-- nothing was counted, and the door stays bound
abbrev pub invariant-loop : goal.invariant-loop
invariant-loop g l = record { same : l.self ≡ l.fn.self; bound : l.self.bound ≡ true }
