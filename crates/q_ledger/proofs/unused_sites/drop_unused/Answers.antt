use Rattle.std.proofs.Common.{rules}
use Rattle.std.proofs.lemmas.Fn.{filter_same}
use Rattle.q_ledger.specs.Tidying.{stays_where}
use Rattle.q_ledger.proofs.unused_sites.drop_unused.Goals as goal

pub returns : goal.returns
returns c = filter_same _ (stays_where c.args.woken.now c.args.waiting.now c.args.flights.now) _ (λ x b f' t. search rules) _ _ c.retain.ensures.filtered
