use Rattle.q_link.specs.declared.usage.Usage.TheVariants.{Open}
use Rattle.q_link.specs.WaitsLeft.{Spares}
use Rattle.std.proofs.Common.{◌≡◌, ◌≤◌, IsTrue}
use Rattle.q_host.specs.Calls.{Stays}
use Rattle.q_session.specs.Course.{replies_left}
use Rattle.q_session.specs.Mails.{StandsAt}
use Rattle.q_session.proofs.Polling.{Along}
use Rattle.q_session.proofs.delivery.Delivery.poll.Given as goal

abbrev pub invariant-loop-self : goal.invariant-loop-self
invariant-loop-self g l = record {
  along : Along g.H.Host.tells (StandsAt g.H.Host.tells (g.H.Host.view l.fn.host) l.fn.self.content.spot) l.fn.self (g.L.Link.view l.fn.link) l.self (g.L.Link.view l.link);
  usable : (g.L.Link.view l.link).usage ≡ Open;
  spared : Spares 0 (g.L.Link.view l.fn.link).waits_left (g.L.Link.view l.link).waits_left;
  stays : IsTrue g.H.Host.tells → Stays (g.H.Host.view l.fn.host) (g.H.Host.view l.host);
  disk : (g.H.Host.faults l.fn.host).disk ≤ (g.H.Host.faults l.host).disk;
  tell : (g.H.Host.faults l.fn.host).tell ≤ (g.H.Host.faults l.host).tell;
}

abbrev pub decreases-loop-self : goal.decreases-loop-self
decreases-loop-self g l = replies_left l.self.dialogue
