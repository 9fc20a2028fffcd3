use Rattle.std.proofs.Common.{subst}
use Rattle.std.specs.Prelude.{IsErrOf}
use Rattle.q_message.specs.declared.error.MessageError.{MessageError}
use Rattle.q_message.specs.declared.error.MessageError.TheVariants.{NotAMessage}
use Rattle.q_walk.proofs.Reading.{fault_read}
use Rattle.q_walk.proofs.walk.found_at.Goals as goal

pub returns-in-Err-NotAMessage-clause-found : goal.returns-in-Err-NotAMessage-clause-found
returns-in-Err-NotAMessage-clause-found g c t bytes there =
    let place = c.in-Err-NotAMessage.field-0-0 in
    let is : IsErrOf c.read_head.result (NotAMessage place) = subst (λ (e : MessageError). IsErrOf c.read_head.result e) c.in-Err-NotAMessage.field-0-is c.in-Err-NotAMessage.is in
    fault_read (g.H.Host.view c.args.host.now) (g.H.Host.view c.has.new.self) c.file_spot-spot.result c.args.place c.args.id bytes place (c.has.ensures.stays t).files c.file_spot-spot.ensures there (c.read_head.ensures.no_message place is t)
