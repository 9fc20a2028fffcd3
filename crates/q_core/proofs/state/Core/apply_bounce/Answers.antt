use Rattle.std.proofs.Common.{ap, ◌∙◌, inl, refl, sym, Some}
use Rattle.q_model.specs.declared.entry.Entry.TheVariants as entries
use Rattle.q_core.specs.declared.decision.Decision.TheVariants as decisions
use Rattle.q_core.proofs.AppliedLaws.{decided_rule, may_next}
use Rattle.q_core.proofs.state.Core.apply_bounce.Goals as goal

pub returns-then-has_slot-clause-exact : goal.returns-then-has_slot-clause-exact
returns-then-has_slot-clause-exact c = λ w l a.
    let id = c.args.id in
    let rule = decided_rule a (decisions.Bounce id) refl c.requires.decided in
    let next = rule.2 ∙ ap (λ e. Some e) rule.1 in
    inl (entries.Bounce id, refl, next, c.bounce.ensures.exact (sym c.has_slot.ensures ∙ c.if-has_slot.true) w l a (may_next a (entries.Bounce id) next).0)

pub returns-else-has_slot-clause-exact : goal.returns-else-has_slot-clause-exact
returns-else-has_slot-clause-exact c = λ w l a.
    let id = c.args.id in
    let rule = decided_rule a (decisions.Bounce id) refl c.requires.decided in
    let next = rule.2 ∙ ap (λ e. Some e) rule.1 in
    inl (entries.Bounce id, refl, next, c.bounce_left.ensures.exact id (sym c.has_slot.ensures ∙ c.if-has_slot.false) w l a (may_next a (entries.Bounce id) next).0)
