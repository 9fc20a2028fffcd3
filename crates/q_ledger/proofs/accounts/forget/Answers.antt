use Rattle.std.proofs.Common.{rules, not}
use Rattle.std.proofs.lemmas.Fn.{filter_same}
use Rattle.q_model.specs.Ids.{id_eq}
use Rattle.q_ledger.proofs.accounts.forget.Goals as goal

pub returns : goal.returns
returns c = filter_same _ (λ a. not (id_eq a.id c.args.id)) _ (λ x b f' t. search rules) _ _ c.retain.ensures.filtered
