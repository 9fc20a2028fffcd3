use Rattle.std.proofs.Common.{ap, ◌∙◌, inl, refl, Some}
use Rattle.q_model.specs.declared.entry.Entry.TheVariants as entries
use Rattle.q_core.specs.declared.decision.Decision.TheVariants as decisions
use Rattle.q_core.proofs.AppliedLaws.{decided_rule, may_next}
use Rattle.q_core.proofs.state.Core.apply_defer.Goals as goal

pub returns-clause-exact : goal.returns-clause-exact
returns-clause-exact c = λ w l a.
    let id = c.args.id in
    let due = c.args.due in
    let rule = decided_rule a (decisions.Defer id due) refl c.requires.decided in
    let next = rule.2 ∙ ap (λ e. Some e) rule.1 in
    inl (entries.Defer id due, refl, next, c.defer.ensures.exact due w l a (may_next a (entries.Defer id due) next).0)
