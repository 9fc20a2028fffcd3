use Rattle.std.proofs.Common.{rules, not, ◌==◌}
use Rattle.std.proofs.lemmas.Fn.{filter_same}
use Rattle.q_ledger.proofs.settling.land.Goals as goal

pub returns : goal.returns
returns c = filter_same _ (λ f. not (f.number == c.args.number)) _ (λ x b f' t. search rules) _ _ c.retain.ensures.filtered
