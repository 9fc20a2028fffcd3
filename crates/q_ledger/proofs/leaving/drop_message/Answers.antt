use Rattle.std.proofs.Common.{rules, not}
use Rattle.std.proofs.lemmas.Fn.{filter_same}
use Rattle.q_model.specs.Ids.{id_eq}
use Rattle.q_ledger.proofs.leaving.drop_message.Goals as goal

pub returns : goal.returns
returns c = filter_same _ (λ m. not (id_eq m.id c.args.id)) _ (λ x b f' t. search rules) _ _ c.retain.ensures.filtered
