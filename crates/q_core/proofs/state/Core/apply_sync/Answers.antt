use Rattle.std.proofs.Common.{ap, ◌∙◌, inl, refl, sym, Some}
use Rattle.q_model.specs.declared.entry.Entry.TheVariants as entries
use Rattle.q_core.specs.declared.decision.Decision.TheVariants as decisions
use Rattle.q_core.proofs.AppliedLaws.{decided_rule}
use Rattle.q_core.proofs.state.Core.apply_sync.Goals as goal

pub returns-then-has_slot-clause-exact : goal.returns-then-has_slot-clause-exact
returns-then-has_slot-clause-exact c = λ w l a.
    let id = c.args.id in
    let rule = decided_rule a (decisions.Sync id) refl c.requires.decided in
    inl (entries.Sync id, refl, rule.2 ∙ ap (λ e. Some e) rule.1, c.sync.ensures.exact w l a)

pub returns-else-has_slot-clause-exact : goal.returns-else-has_slot-clause-exact
returns-else-has_slot-clause-exact c = λ w l a.
    let id = c.args.id in
    let rule = decided_rule a (decisions.Sync id) refl c.requires.decided in
    let next = rule.2 ∙ ap (λ e. Some e) rule.1 in
    inl (entries.Sync id, refl, next, c.sync_left.ensures.exact (sym c.has_slot.ensures ∙ c.if-has_slot.false) w l a next)
