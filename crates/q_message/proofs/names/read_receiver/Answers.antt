use Rattle.std.proofs.Common.{◌≡◌, ◌+◌, ◌-◌, Err, ap, arith, length}
use Rattle.q_message.specs.declared.error.MessageError.TheVariants.{NotAMessage}
use Rattle.q_message.proofs.NameLaws.{not_within, same_error, stands_later, stands_same}
use Rattle.q_message.proofs.names.read_receiver.Goals as goal

pub returns-in_err-pass_recipients-clause-no_message : goal.returns-in_err-pass_recipients-clause-no_message
returns-in_err-pass_recipients-clause-no_message g c place is t m s first =
    let inner = c.in_err-pass_recipients.field-0.0 in
    let same : inner ≡ NotAMessage place = same_error c.from_residual.result inner (NotAMessage place) c.from_residual.ensures.1 is in
    let past = c.in_err-pass_recipients.ensures.no_message place (ap (λ e. Err e) same) t m (c.args.position - c.seek-count.result) (c.seek-count.ensures.stands _ m s first) in
    omega (arith, past, c.seek-count.ensures.within)

pub returns-in_err-recipient-clause-no_message : goal.returns-in_err-recipient-clause-no_message
returns-in_err-recipient-clause-no_message g c place is t m s first =
    let inner = c.in_err-recipient.field-0.0 in
    let same : inner ≡ NotAMessage place = same_error c.from_residual-in_err-recipient.result inner (NotAMessage place) c.from_residual-in_err-recipient.ensures.1 is in
    not_within c.args.position (length m.recipients) (λ within.
    let sum : c.args.position - c.seek-count.result + c.seek-count.result ≡ c.args.position = omega (arith, c.seek-count.ensures.within) in
    let passed = c.in_ok-pass_recipients.ensures.stands t m (c.args.position - c.seek-count.result) (c.seek-count.ensures.stands _ m s first) (omega (arith, within, sum)) in
    let here = stands_later (g.H.Host.view c.args.host.now) (g.H.Host.view c.pass_recipients.new.host) c.args.spot m c.args.position c.pass_recipients.new.window (c.pass_recipients.ensures.stays t)
    (stands_same _ m (c.args.position - c.seek-count.result + c.seek-count.result) c.args.position c.pass_recipients.new.window sum passed) in
    let past = c.in_err-recipient.ensures.no_message place (ap (λ e. Err e) same) t m c.args.position here in
    omega (arith, past, within))
