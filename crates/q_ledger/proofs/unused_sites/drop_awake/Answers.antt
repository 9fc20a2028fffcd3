use Rattle.std.proofs.Common.{rules, not}
use Rattle.std.proofs.lemmas.Fn.{filter_same}
use Rattle.std.specs.Prelude.{◌&&◌}
use Rattle.q_ledger.specs.Tidying.{is_at}
use Rattle.q_model.specs.SiteRecords.{is_awake}
use Rattle.q_ledger.proofs.unused_sites.drop_awake.Goals as goal

pub returns : goal.returns
returns c = filter_same _ (λ r. not (is_at c.args.site.now r && is_awake r)) _ (λ x b f' t. search rules) _ _ c.retain.ensures.filtered
