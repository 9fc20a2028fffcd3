use Rattle.std.proofs.Common.{arith, ap, ◌≡◌}
use Rattle.q_message.specs.declared.error.MessageError.TheVariants.{NotAMessage}
use Rattle.q_message.specs.Told.{bytes_at}
use Rattle.q_model.specs.Values.{FileHead}
use Rattle.q_look.proofs.UnreadableFiles.{err_same, not_read}
use Rattle.q_look.proofs.UnmarkedLaws.{all_marked, first_read}
use Rattle.q_look.proofs.failed.first_unmarked.Goals as goal

pub returns-then-unmarked-eq0-clause-first : goal.returns-then-unmarked-eq0-clause-first
returns-then-unmarked-eq0-clause-first g c t =
    let recipients : c.head.inside.recipients ≡ c.args.head.now.recipients = ap (λ (h : FileHead). h.recipients) c.head.view_is in
    let marked : c.head.inside.marked ≡ c.args.head.now.marked = ap (λ (h : FileHead). h.marked) c.head.view_is in
    all_marked (bytes_at (g.H.Host.view c.args.host.now) c.args.spot) c.args.head.now c.args.set.now (omega (arith, c.saturating_sub-unmarked.ensures, c.if-unmarked-eq0.true, recipients, marked)) (c.requires.reading t)

pub returns-in-Err-clause-first : goal.returns-in-Err-clause-first
returns-in-Err-clause-first g c =
    not_read g.H.Host.tells c.unreadable.result c.in-Err.error _ c.unreadable.ensures
    (λ place is t. absurd (c.read_recipients.ensures.no_message place (err_same c.read_recipients.result c.in-Err.error (NotAMessage place) c.in-Err.is is) t))

pub returns-clause-first : goal.returns-clause-first
returns-clause-first g c t =
    let recipients : c.head.inside.recipients ≡ c.args.head.now.recipients = ap (λ (h : FileHead). h.recipients) c.head.view_is in
    let marked : c.head.inside.marked ≡ c.args.head.now.marked = ap (λ (h : FileHead). h.marked) c.head.view_is in
    first_read (bytes_at (g.H.Host.view c.args.host.now) c.args.spot) c.args.head.now c.args.set.now c.saturating_sub-unmarked.result c.read_recipients.new.out.items c.first_set.result (omega (arith, c.saturating_sub-unmarked.ensures, recipients, marked)) c.first_set.ensures (c.requires.reading t) (c.in-Ok.ensures.taken t)
