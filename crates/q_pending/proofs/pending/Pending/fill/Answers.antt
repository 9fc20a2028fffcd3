use Rattle.std.proofs.Common.{◌≡◌, ◌≤◌, ◌∙◌, arith, refl, subst, sym}
use Rattle.q_message.specs.Told.{bytes_at}
use Rattle.q_pending.proofs.FileLaws.{cursor_behind}
use Rattle.q_pending.proofs.ReadingLaws.{read_ahead, read_none}
use Rattle.q_pending.proofs.pending.Pending.fill.Goals as goal

pub returns-in-Ok-clause-reading : goal.returns-in-Ok-clause-reading
returns-in-Ok-clause-reading g c t =
    let old = c.args.self.now in
    let reading = c.requires.reading t in
    let some : 1 ≤ c.room-room.result = omega (arith, c.if-room-eq0.false) in
    let same : c.read_recipients.new.out.room ≡ c.room-room.result = c.read_recipients.ensures.room ∙ sym c.room-room.ensures in
    record {
      room = subst (λ n. 1 ≤ n) (sym same) some;
      there = reading.there;
      cursor = cursor_behind (bytes_at (g.H.Host.view c.args.host.now) old.spot) old.recipients old.next c.in-Ok.next c.room-room.result reading.cursor (c.in-Ok.ensures.next t);
    }

pub returns-in-Ok-clause-ahead : goal.returns-in-Ok-clause-ahead
returns-in-Ok-clause-ahead g c t =
    let some : 1 ≤ c.room-room.result = omega (arith, c.if-room-eq0.false) in
    read_ahead (g.H.Host.view c.args.host.now).files c.args.self.now _ c.room-room.result some c.requires.done refl refl (c.in-Ok.ensures.taken t) (c.in-Ok.ensures.next t)

pub returns-in-Ok-clause-none : goal.returns-in-Ok-clause-none
returns-in-Ok-clause-none g c t =
    let some : 1 ≤ c.room-room.result = omega (arith, c.if-room-eq0.false) in
    read_none (g.H.Host.view c.args.host.now).files c.args.self.now _ c.room-room.result some refl (c.in-Ok.ensures.taken t) (c.in-Ok.ensures.next t)
