use Rattle.std.proofs.Common.{rules, not}
use Rattle.std.proofs.lemmas.Fn.{filter_same}
use Rattle.q_ledger.specs.LinesLeft.{is_served_at}
use Rattle.q_ledger.proofs.tidying.forget_served.Goals as goal

pub returns-clause-items : goal.returns-clause-items
returns-clause-items c = filter_same _ (λ s. not (is_served_at c.args.id c.args.site.now s)) _ (λ x b f' t. search rules) _ _ c.retain.ensures.filtered
