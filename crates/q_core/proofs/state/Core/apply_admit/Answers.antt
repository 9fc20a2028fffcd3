use Rattle.std.proofs.Common.{ap, ◌∙◌, inl, refl, Some}
use Rattle.q_model.specs.declared.entry.Entry.TheVariants as entries
use Rattle.q_core.specs.declared.decision.Decision.TheVariants as decisions
use Rattle.q_core.proofs.KindLaws.{admit_known}
use Rattle.q_core.proofs.AppliedLaws.{decided_rule, may_next}
use Rattle.q_core.proofs.state.Core.apply_admit.Goals as goal

pub returns-clause-exact : goal.returns-clause-exact
returns-clause-exact c = λ w l a.
    let id = c.args.id in
    let rule = decided_rule a (decisions.Admit id c.args.place) refl c.requires.decided in
    let next = rule.2 ∙ ap (λ e. Some e) rule.1 in
    let known = admit_known c.args.self.now id c.args.place c.requires.decided in
    inl (entries.Admit id, refl, next, c.admit.ensures.exact id known w l a (may_next a (entries.Admit id) next).0)
