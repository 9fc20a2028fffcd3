use Rattle.std.proofs.Common.{arith, ap, ◌≡◌, None}
use Rattle.std.specs.Option.{option_map}
use Rattle.q_message.specs.declared.error.MessageError.TheVariants.{NotAMessage}
use Rattle.q_message.specs.FileHeads.{head_of}
use Rattle.q_message.specs.Told.{bytes_at}
use Rattle.q_model.specs.QueueFile.{queue_file}
use Rattle.q_model.specs.Values.{FileHead}
use Rattle.q_look.proofs.HeadLaws.{no_count, no_head}
use Rattle.q_look.proofs.UnreadableFiles.{err_same, not_read}
use Rattle.q_look.proofs.facts.head_at.Goals as goal

pub returns-in-Err-clause-head : goal.returns-in-Err-clause-head
returns-in-Err-clause-head g c =
    not_read g.H.Host.tells c.unreadable.result c.in-Err.error _ c.unreadable.ensures
    (λ place is t. no_head (bytes_at (g.H.Host.view c.args.host.now) c.args.spot) place (c.read_head.ensures.no_message place (err_same c.read_head.result c.in-Err.error (NotAMessage place) c.in-Err.is is) t))

pub returns-then-head-eq0-clause-head : goal.returns-then-head-eq0-clause-head
returns-then-head-eq0-clause-head g c t =
    let recipients : c.head.inside.recipients ≡ c.in-Ok.head.recipients = ap (λ (h : FileHead). h.recipients) c.head.view_is in
    no_count (bytes_at (g.H.Host.view c.args.host.now) c.args.spot) c.in-Ok.head (λ bytes. None ≡ option_map head_of (queue_file bytes)) (λ some few. omega (arith, recipients, some, c.if-head-eq0.true)) (c.in-Ok.ensures.head t)

pub returns-then-head-gt-MOST_RECIPIENTS-clause-head : goal.returns-then-head-gt-MOST_RECIPIENTS-clause-head
returns-then-head-gt-MOST_RECIPIENTS-clause-head g c t =
    let recipients : c.head.inside.recipients ≡ c.in-Ok.head.recipients = ap (λ (h : FileHead). h.recipients) c.head.view_is in
    no_count (bytes_at (g.H.Host.view c.args.host.now) c.args.spot) c.in-Ok.head (λ bytes. None ≡ option_map head_of (queue_file bytes)) (λ some few. omega (arith, recipients, few, c.if-head-gt-MOST_RECIPIENTS.true)) (c.in-Ok.ensures.head t)
