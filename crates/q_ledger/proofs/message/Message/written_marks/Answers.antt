use Rattle.std.proofs.Common.{◌∙◌, ap, length}
use Rattle.q_model.specs.Marks.{is_written}
use Rattle.q_model.specs.Message.{Message, written_marks}
use Rattle.q_ledger.proofs.CountLaws.{count_places}
use Rattle.q_ledger.proofs.message.Message.written_marks.Goals as goal

pub returns : goal.returns
returns c = c.self.invariant.0 ∙ count_places (λ r. is_written r.mark) 0 c.self.inside.recipients.items ∙ ap (λ (m : Message). length (written_marks m)) c.self.view_is
