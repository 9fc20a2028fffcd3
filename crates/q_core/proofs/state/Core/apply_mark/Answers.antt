use Rattle.std.proofs.Common.{◌≡◌, [], ap, ◌∙◌, inl, refl, sym, Some}
use Rattle.q_model.specs.declared.entry.Entry.TheVariants as entries
use Rattle.q_core.specs.declared.decision.Decision.TheVariants as decisions
use Rattle.q_core.proofs.AppliedLaws.{decided_rule, first_wanted, left_wanted, may_next, no_items, some_items}
use Rattle.q_core.proofs.state.Core.apply_mark.Goals as goal

pub returns-then-has_no_outcomes-clause-exact : goal.returns-then-has_no_outcomes-clause-exact
returns-then-has_no_outcomes-clause-exact c = λ w l a.
    let id = c.args.id in
    let position = c.args.position in
    let rule = decided_rule a (decisions.Mark id position) refl c.requires.decided in
    let next = rule.2 ∙ ap (λ e. Some e) rule.1 in
    let none : c.args.self.now.unsettled ≡ [] = no_items c.args.self.now.unsettled (sym c.has_no_outcomes.ensures ∙ c.if-has_no_outcomes.true) in
    inl (entries.Mark id position, refl, next, c.mark_left.ensures.exact none w l a id position (left_wanted id position a none (may_next a (entries.Mark id position) next)))

pub returns-else-has_no_outcomes-clause-exact : goal.returns-else-has_no_outcomes-clause-exact
returns-else-has_no_outcomes-clause-exact c = λ w l a.
    let id = c.args.id in
    let position = c.args.position in
    let rule = decided_rule a (decisions.Mark id position) refl c.requires.decided in
    let next = rule.2 ∙ ap (λ e. Some e) rule.1 in
    inl (entries.Mark id position, refl, next, c.mark_first.ensures.exact position w l a (first_wanted id position a (some_items c.args.self.now.unsettled (sym c.has_no_outcomes.ensures ∙ c.if-has_no_outcomes.false)) (may_next a (entries.Mark id position) next)))
