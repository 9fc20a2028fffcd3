use Rattle.std.proofs.Common.{◌≡◌, ◌∙◌, false, rules}
use Rattle.q_ledger.proofs.WokenLaws.{none_may}
use Rattle.q_ledger.specs.Tidying.{may_wake}
use Rattle.q_ledger.proofs.ledger.Ledger.woken_by.Goals as goal

pub returns-then-not-may_wake : goal.returns-then-not-may_wake
returns-then-not-may_wake c =
    let never : may_wake c.args.entry.now ≡ false = search rules in
    c.new.ensures.items ∙ none_may c.args.self.now.ledger c.args.entry.now never
