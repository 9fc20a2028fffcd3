use Rattle.std.proofs.Common.{rules, ◌≡◌, ◌∙◌, ap, false, sym}
use Rattle.q_ledger.proofs.NeedLaws.{none_best}
use Rattle.q_ledger.specs.Preempting.{pays_with}
use Rattle.q_ledger.specs.declared.candidates.Standing.{Standing}
use Rattle.q_ledger.proofs.ledger.Ledger.best.Goals as goal

pub returns-then-not-pays : goal.returns-then-not-pays
returns-then-not-pays c =
    let none : c.pays.result ≡ false = search rules in
    sym (none_best c.args.world.now c.args.self.now c.args.accounts.now c.args.transport c.args.parent (ap (λ (s : Standing). pays_with c.args.world.now.settings s 1) (sym c.standing-standing.ensures) ∙ sym c.pays.ensures ∙ none))
