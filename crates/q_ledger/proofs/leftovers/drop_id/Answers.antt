use Rattle.std.proofs.Common.{rules, not}
use Rattle.std.proofs.lemmas.Fn.{filter_same}
use Rattle.q_model.specs.Ids.{id_eq}
use Rattle.q_ledger.proofs.leftovers.drop_id.Goals as goal

pub returns-clause-items : goal.returns-clause-items
returns-clause-items c = filter_same _ (λ x. not (id_eq x c.args.id)) _ (λ x b f' t. search rules) _ _ c.retain.ensures.filtered
