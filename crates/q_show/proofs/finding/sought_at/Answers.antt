use Rattle.std.proofs.Common.{◌∙◌, subst, sym}
use Rattle.std.specs.Prelude.{IsErrOf, IsSome}
use Rattle.q_model.specs.Values.{Spot}
use Rattle.q_message.specs.declared.error.MessageError.{MessageError}
use Rattle.q_message.specs.declared.error.MessageError.TheVariants.{NotAMessage}
use Rattle.q_show.proofs.Sought.{says_fault, still_fault}
use Rattle.q_show.proofs.finding.sought_at.Goals as goal

pub returns-in-Err-NotAMessage-clause-says : goal.returns-in-Err-NotAMessage-clause-says
returns-in-Err-NotAMessage-clause-says g c t bytes there =
    let n = c.in-Err-NotAMessage.fault in
    let is : IsErrOf c.read_head.result (NotAMessage n) = subst (λ (e : MessageError). IsErrOf c.read_head.result e) c.in-Err-NotAMessage.field-0-is c.in-Err-NotAMessage.is in
    says_fault (g.H.Host.view c.args.host.now) (g.H.Host.view c.has.new.self) c.file_spot-spot.result c.args.place c.args.id bytes n (c.has.ensures.stays t).files c.file_spot-spot.ensures there (c.read_head.ensures.no_message n is t)

pub returns-in-Err-NotAMessage-clause-still : goal.returns-in-Err-NotAMessage-clause-still
returns-in-Err-NotAMessage-clause-still g c =
    let n = c.in-Err-NotAMessage.fault in
    let is : IsErrOf c.read_head.result (NotAMessage n) = subst (λ (e : MessageError). IsErrOf c.read_head.result e) c.in-Err-NotAMessage.field-0-is c.in-Err-NotAMessage.is in (
      λ t. subst (λ (s : Spot). IsSome ((g.H.Host.view c.args.host.now).files s.area s.name)) c.spot.view_is (sym (c.in_ok-has.ensures.found t) ∙ c.if-not-branch.false),
      λ t. still_fault (g.H.Host.view c.args.host.now) (g.H.Host.view c.has.new.self) c.file_spot-spot.result n (c.has.ensures.stays t).files (c.read_head.ensures.no_message n is t),
    )
