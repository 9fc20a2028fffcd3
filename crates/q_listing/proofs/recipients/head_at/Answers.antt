use Rattle.std.proofs.Common.{◌≡◌, ap, Err, subst}
use Rattle.std.specs.Option.{IfSome}
use Rattle.q_message.specs.FileHeads.{fault_at, IsFault}
use Rattle.q_model.specs.SpoolFiles.{Files}
use Rattle.q_listing.proofs.RecipientLaws.{no_file}
use Rattle.q_listing.proofs.recipients.head_at.Goals as goal

pub returns-in-Err-NotAMessage-clause-none : goal.returns-in-Err-NotAMessage-clause-none
returns-in-Err-NotAMessage-clause-none g c t m is =
    let spot = c.args.spot in
    let place = c.in-Err-NotAMessage.field-0-0 in
    let fault = c.in-Err-NotAMessage.ensures.no_message place (ap Err c.in-Err-NotAMessage.field-0-is) t in
    no_file (g.H.Host.view c.args.host.now).files m spot (λ file. place ≡ fault_at file) is
    (subst (λ (f : Files). IfSome (f spot.area spot.name) (IsFault place)) (c.in_ok-has.ensures.stays t).files fault)
