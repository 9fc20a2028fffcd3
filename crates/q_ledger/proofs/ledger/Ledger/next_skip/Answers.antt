use Rattle.std.proofs.Common.{rules, ◌≡◌, ◌∙◌, false, sym}
use Rattle.q_ledger.proofs.EarlyRules.{no_skip}
use Rattle.q_ledger.proofs.ledger.Ledger.next_skip.Goals as goal

pub returns-then-not-has_dead_site : goal.returns-then-not-has_dead_site
returns-then-not-has_dead_site c =
    let none : c.has_dead_site.result ≡ false = search rules in
    sym (no_skip c.args.self.now.ledger (sym c.has_dead_site.ensures ∙ none))
