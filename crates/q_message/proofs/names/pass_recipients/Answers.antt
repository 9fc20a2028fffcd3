use Rattle.std.proofs.Common.{◌≡◌, ◌+◌, Err, ap, arith, length, ⊎_elim}
use Rattle.std.proofs.lemmas.Bool.{cases_lt}
use Rattle.q_message.specs.declared.error.MessageError.TheVariants.{NotAMessage}
use Rattle.q_message.proofs.NameLaws.{same_error, stands_later}
use Rattle.q_message.proofs.names.pass_recipients.Goals as goal

pub returns-in_err-next_recipient-clause-no_message : goal.returns-in_err-next_recipient-clause-no_message
returns-in_err-next_recipient-clause-no_message g c place is t m i s =
    let loop = c.loop in
    let inner = c.in_err-next_recipient.field-0.0 in
    let same : inner ≡ NotAMessage place = same_error c.from_residual.result inner (NotAMessage place) c.from_residual.ensures.1 is in
    ⊎_elim (λ past. omega (arith, past, c.loop-test.true))
    (λ within.
    let here = stands_later (g.H.Host.view c.args.host.now) (g.H.Host.view loop.host) c.args.spot m (i + loop.counter) loop.window (loop.invariant.stays t) (loop.invariant.stands t m i s within) in
    let past = c.in_err-next_recipient.ensures.no_message place (ap (λ e. Err e) same) t m (i + loop.counter) here in
    omega (arith, past, c.loop-test.true))
    (cases_lt (length m.recipients) (i + loop.counter))
