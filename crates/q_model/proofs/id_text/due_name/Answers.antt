use Rattle.std.proofs.Common.{◌++◌, ◌∷◌, [], ℕ, List, ap, ◌∙◌, append_assoc}
use Rattle.q_model.specs.IdTexts.{decimals, id_text}
use Rattle.q_model.specs.Texts.{is_name}
use Rattle.q_model.proofs.IdLaws.{is_name-due_text}
use Rattle.q_model.proofs.id_text.due_name.Goals as goal

pub from_text-requires : goal.from_text-requires
from_text-requires c =
    let behind = 45 ∷ [] in
    ap is_name
    (c.append_id.ensures ∙ ap (λ (x : List ℕ). x ++ id_text c.args.id) (c.append.ensures ∙ ap (λ (x : List ℕ). x ++ behind) (c.append_decimals.ensures.text ∙ ap (λ (x : List ℕ). x ++ decimals 12 c.args.due) c.new-name.ensures))
    ∙ append_assoc (decimals 12 c.args.due) behind (id_text c.args.id))
    ∙ is_name-due_text c.args.due c.args.id
