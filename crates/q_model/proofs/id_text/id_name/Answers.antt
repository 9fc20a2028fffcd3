use Rattle.std.proofs.Common.{◌++◌, ap, ◌∙◌}
use Rattle.q_model.specs.IdTexts.{id_text}
use Rattle.q_model.specs.Texts.{is_name}
use Rattle.q_model.proofs.IdLaws.{is_name-id_text}
use Rattle.q_model.proofs.id_text.id_name.Goals as goal

pub from_text-requires : goal.from_text-requires
from_text-requires c = ap is_name (c.append_id.ensures ∙ ap (λ x. x ++ id_text c.args.id) c.new-name.ensures) ∙ is_name-id_text c.args.id
