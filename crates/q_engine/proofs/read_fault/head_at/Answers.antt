use Rattle.std.proofs.Common.{◌≡◌, None, ap, arith}
use Rattle.q_look.proofs.HeadLaws.{no_count}
use Rattle.q_model.specs.QueueFile.{queue_file}
use Rattle.q_model.specs.Values.{FileHead}
use Rattle.q_message.specs.Told.{bytes_at}
use Rattle.q_message.specs.declared.error.MessageError.TheVariants.{NotAMessage}
use Rattle.q_engine.proofs.Unread.{err_same, none_read, unless_none}
use Rattle.q_engine.proofs.read_fault.head_at.Goals as goal

pub returns-in-Err-clause-head : goal.returns-in-Err-clause-head
returns-in-Err-clause-head g c = unless_none c.unless_damaged.result c.in-Err.error _ c.unless_damaged.ensures (λ place is. tt)

pub returns-in-Err-clause-none : goal.returns-in-Err-clause-none
returns-in-Err-clause-none g c =
    unless_none c.unless_damaged.result c.in-Err.error _ c.unless_damaged.ensures (λ place is t.
    none_read (bytes_at (g.H.Host.view c.args.host.now) c.args.spot) place (c.read_head.ensures.no_message place (err_same c.read_head.result c.in-Err.error (NotAMessage place) c.in-Err.is is) t))

pub returns-then-head-gt-MOST_RECIPIENTS-clause-none : goal.returns-then-head-gt-MOST_RECIPIENTS-clause-none
returns-then-head-gt-MOST_RECIPIENTS-clause-none g c t =
    let recipients : c.head.inside.recipients ≡ c.in-Ok.head.recipients = ap (λ (h : FileHead). h.recipients) c.head.view_is in
    no_count (bytes_at (g.H.Host.view c.args.host.now) c.args.spot) c.in-Ok.head (λ bytes. queue_file bytes ≡ None) (λ some few. omega (arith, recipients, few, c.if-head-gt-MOST_RECIPIENTS.true)) (c.in-Ok.ensures.head t)

pub returns-clause-few : goal.returns-clause-few
returns-clause-few g c =
    let recipients : c.head.inside.recipients ≡ c.in-Ok.head.recipients = ap (λ (h : FileHead). h.recipients) c.head.view_is in
    omega (arith, recipients, c.if-head-gt-MOST_RECIPIENTS.false)
