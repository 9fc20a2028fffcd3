use Rattle.q_message.specs.Told.{bytes_at}
use Rattle.q_message.specs.declared.error.MessageError.TheVariants.{NotAMessage}
use Rattle.q_engine.proofs.OpenRecipients.{no_file, same_refusal}
use Rattle.q_engine.proofs.seeking.read_whole.Goals as goal

pub returns-in_err-file-clause-no_message : goal.returns-in_err-file-clause-no_message
returns-in_err-file-clause-no_message g c place is t =
    no_file (bytes_at (g.H.Host.view c.args.host.now) c.args.spot) place
    (c.in_err-file.ensures.no_message place (same_refusal c.from_residual.result c.in_err-file.field-0.0 (NotAMessage place) c.from_residual.ensures.1 is) t)
