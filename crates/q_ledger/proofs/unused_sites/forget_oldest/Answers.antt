use Rattle.std.proofs.Common.{◌≡◌, List, ap, arith, filter, length}
use Rattle.q_ledger.proofs.SiteLaws.{few_asleep}
use Rattle.q_ledger.specs.Tidying.{is_asleep}
use Rattle.q_model.specs.Values.{SiteRecord}
use Rattle.q_ledger.proofs.unused_sites.forget_oldest.Goals as goal

pub returns-then-count_asleep-limit : goal.returns-then-count_asleep-limit
returns-then-count_asleep-limit c =
    let same : length (filter is_asleep c.deref.result.now) ≡ length (filter is_asleep c.args.sites.now.items) = ap (λ (rs : List SiteRecord). length (filter is_asleep rs)) c.deref.ensures.value in
    few_asleep c.args.waiting.now c.args.flights.now c.args.limit c.args.sites.now.items (omega (arith, c.count_asleep.ensures, c.if-count_asleep-limit.true, same))
