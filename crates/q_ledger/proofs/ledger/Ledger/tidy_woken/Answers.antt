use Rattle.std.proofs.Common.{◌≡◌, ◌==◌, ap, length, rules, sym, true}
use Rattle.q_ledger.proofs.WokenLaws.{none_there}
use Rattle.q_ledger.specs.Settled.{with_sites}
use Rattle.q_ledger.proofs.ledger.Ledger.tidy_woken.Goals as goal

pub returns-else-not-is_empty : goal.returns-else-not-is_empty
returns-else-not-is_empty c =
    let s = c.args.self.now in
    let empty : (length c.args.woken.now == 0) ≡ true = search rules in
    ap (λ rs. with_sites rs s) (sym (none_there c.args.woken.now s.ledger empty))
