use Rattle.std.proofs.Common.{◌∙◌, ap, Err, subst}
use Rattle.std.specs.Option.{IfSome}
use Rattle.q_ages.proofs.AddingLaws.{no_fault}
use Rattle.q_message.specs.FileHeads.{IsFault}
use Rattle.q_message.specs.declared.error.MessageError.{MessageError}
use Rattle.q_model.specs.SpoolFiles.{Files}
use Rattle.q_ages.proofs.counting.open.Goals as goal

pub returns-in-Err-NotAMessage-clause-opened : goal.returns-in-Err-NotAMessage-clause-opened
returns-in-Err-NotAMessage-clause-opened g c t m found =
    let spot = c.args.found.now.spot in
    let place = c.in-Err-NotAMessage.field-0-0 in
    let fault = c.read_head.ensures.no_message c.in-Err-NotAMessage.field-0-0 (c.in-Err-NotAMessage.is ∙ ap (λ (e : MessageError). Err e) c.in-Err-NotAMessage.field-0-is) t in
    no_fault (g.H.Host.view c.args.host.now).files m spot place (record { stands = found.stands; spot = found.spot })
    (subst (λ (f : Files). IfSome (f c.args.found.now.spot.area c.args.found.now.spot.name) (IsFault c.in-Err-NotAMessage.field-0-0)) (c.in_ok-has.ensures.stays t).files fault)
