use Rattle.std.proofs.Common.{◌∙◌, ap, Err, subst}
use Rattle.std.specs.Prelude.{IfSome}
use Rattle.q_message.specs.FileHeads.{IsFault}
use Rattle.q_message.specs.declared.error.MessageError.{MessageError}
use Rattle.q_model.specs.SpoolFiles.{Files}
use Rattle.q_super.proofs.Readers.{file_of, no_fault}
use Rattle.q_super.proofs.expiring.pending_of.Goals as goal

pub returns-in-Err-NotAMessage-clause-ahead : goal.returns-in-Err-NotAMessage-clause-ahead
returns-in-Err-NotAMessage-clause-ahead g c t m is =
    let spot = c.file_spot-spot.result in
    let place = c.in-Err-NotAMessage.field-0-0 in
    let fault = c.read_head.ensures.no_message place (c.in-Err-NotAMessage.is ∙ ap (λ (e : MessageError). Err e) c.in-Err-NotAMessage.field-0-is) t in
    no_fault (g.H.Host.view c.args.host.now).files m spot place (file_of (g.H.Host.view c.args.host.now).files c.args.file m spot c.file_spot-spot.ensures is)
    (subst (λ (f : Files). IfSome (f spot.area spot.name) (IsFault place)) (c.is_there.ensures.stays t).files fault)
