use Rattle.std.proofs.Common.{◌≡◌, ◌∙◌, ◌+◌, ◌-◌, ◌^◌, ℕ, ap, arith, min}
use Rattle.q_message.specs.Told.{bytes_at}
use Rattle.q_engine.proofs.OpenRecipients.{are_read, cursor_behind}
use Rattle.q_engine.proofs.seeking.read_on.Goals as goal

pub returns-clause-taken : goal.returns-clause-taken
returns-clause-taken g c from leaves t =
    let room = c.min-room.result in
    let is : room ≡ min c.args.max (min (c.args.recipients + 1) (2 ^ 32 - 1)) = c.min-room.ensures ∙ ap (λ (n : ℕ). min c.args.max n) c.saturating_add.ensures in
    are_read (bytes_at (g.H.Host.view c.args.host.now) c.args.spot) c.args.recipients c.args.place c.in_ok-next.next from c.args.max room c.read_recipients.new.out.items
    (omega (arith, is, c.requires.some)) is (omega (arith, c.ranges.max.fits)) (c.requires.reading t) (c.in_ok-next.ensures.taken t) (c.in_ok-next.ensures.next t) (leaves t)

pub returns-clause-progress : goal.returns-clause-progress
returns-clause-progress g c t = cursor_behind (bytes_at (g.H.Host.view c.args.host.now) c.args.spot) c.args.recipients c.args.place c.in_ok-next.next c.min-room.result (c.requires.reading t) (c.in_ok-next.ensures.next t)
