use Rattle.std.proofs.Common.{ap, ◌∙◌, inl, refl, Some}
use Rattle.q_model.specs.declared.entry.Entry.TheVariants as entries
use Rattle.q_core.specs.declared.decision.Decision.TheVariants as decisions
use Rattle.q_core.proofs.AppliedLaws.{decided_rule, log_rule, may_next}
use Rattle.q_core.proofs.state.Core.apply_log.Goals as goal

pub returns-clause-exact : goal.returns-clause-exact
returns-clause-exact c = λ w l a.
    let id = c.args.id in
    let failure = c.args.failure in
    let rule = decided_rule a (decisions.Log id failure) refl c.requires.decided in
    let next = rule.2 ∙ ap (λ e. Some e) rule.1 in
    inl (entries.Log id failure, refl, next, c.log.ensures.exact failure w l a (log_rule l id failure (may_next a (entries.Log id failure) next).0))
