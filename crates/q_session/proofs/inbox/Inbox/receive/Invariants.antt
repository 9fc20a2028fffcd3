use Rattle.q_link.specs.declared.usage.Usage.TheVariants.{Open}
use Rattle.q_link.specs.WaitsLeft.{Spares}
use Rattle.std.proofs.Common.{◌≡◌, ◌≤◌, ◌+◌, ◌-◌, [], length, take}
use Rattle.q_reply.specs.Progress.{room_of}
use Rattle.q_session.specs.Traffic.{GoesOn, Tells}
use Rattle.q_session.proofs.Inboxes.{Reading}
use Rattle.q_session.proofs.inbox.Inbox.receive.Given as goal

abbrev pub invariant-loop-code : goal.invariant-loop-code
invariant-loop-code g l = record {
  empty : l.self.unused.items ≡ [];
  capacity : l.self.unused.capacity ≡ 512;
  size : length l.buffer ≡ 512;
  within : l.count ≤ 512;
  usable : (g.L.Link.view l.link).usage ≡ Open;
  spared : Spares 0 (g.L.Link.view l.fn.link).waits_left (g.L.Link.view l.link).waits_left;
  link : GoesOn (g.L.Link.view l.fn.link) (g.L.Link.view l.link);
  reading : Tells (Reading l.fn.self l.self.replies (take l.count l.buffer)) (g.L.Link.view l.fn.link) (g.L.Link.view l.link);
}

-- each byte that is fed takes room away, and behind the first feeding there is one
abbrev pub decreases-loop-code : goal.decreases-loop-code
decreases-loop-code g l = room_of l.self.replies.progress + (1 - l.count)
