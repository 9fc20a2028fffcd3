use Rattle.q_link.specs.declared.usage.Usage.TheVariants.{Open}
use Rattle.q_link.specs.WaitsLeft.{Spares}
use Rattle.std.proofs.Common.{◌-◌, ◌≡◌, ◌≤◌, take, drop}
use Rattle.q_session.specs.Outgoing.{pending}
use Rattle.q_session.specs.Traffic.{Gave, GoesOn, Tells}
use Rattle.q_session.proofs.outbox.Outbox.flush.Given as goal

abbrev pub invariant-loop-self : goal.invariant-loop-self
invariant-loop-self g l =
    let left = drop l.self-inside.from (take l.self-inside.to l.self-inside.bytes.value) in
    record {
      order : l.self-inside.from ≤ l.self-inside.to;
      within : l.self-inside.to ≤ 131088;
      link : GoesOn (g.L.Link.view l.fn.link) (g.L.Link.view l.link);
      usable : (g.L.Link.view l.link).usage ≡ Open;
      spared : Spares 0 (g.L.Link.view l.fn.link).waits_left (g.L.Link.view l.link).waits_left;
      gave : Tells (Gave (pending l.fn.self) left 0) (g.L.Link.view l.fn.link) (g.L.Link.view l.link);
    }

-- how many bytes are left
abbrev pub decreases-loop-self : goal.decreases-loop-self
decreases-loop-self g l = l.self-inside.to - l.self-inside.from
