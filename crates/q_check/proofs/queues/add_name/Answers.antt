use Rattle.std.proofs.Common.{inr, refl}
use Rattle.std.proofs.lemmas.Result.{on_ok_weaker}
use Rattle.q_check.specs.QueueTexts.{text_of_other}
use Rattle.q_check.proofs.queues.add_name.Goals as goal

pub returns : goal.returns
returns c =
    on_ok_weaker c.add_other.result (λ is. (text_of_other c.args.look c.args.area c.args.name.now, inr (c.is_file_name.ensures.none c.if-is_file_name.false, refl), is)) c.add_other.ensures
