use Rattle.std.proofs.Common.{ap, ◌∙◌, inl, refl, sym, Some, ◌≡◌, true, false}
use Rattle.q_model.specs.declared.entry.Entry.TheVariants as entries
use Rattle.q_core.specs.declared.decision.Decision.TheVariants as decisions
use Rattle.q_core.proofs.RuleLaws.{no_damage, whole_law}
use Rattle.q_core.proofs.KindLaws.{corrupt_picked_parts}
use Rattle.q_core.proofs.AppliedLaws.{decided_rule, may_next}
use Rattle.q_core.proofs.state.Core.apply_corrupt.Goals as goal

pub returns-then-has_damage-clause-exact : goal.returns-then-has_damage-clause-exact
returns-then-has_damage-clause-exact c = λ w l a.
    let none : c.has_damage.result ≡ false = c.has_damage.ensures ∙ no_damage a.matches.parts c.args.id in
    let bad : true ≡ false = sym c.if-has_damage.true ∙ none in
    absurd cc

pub returns-then-shows_damaged-clause-exact : goal.returns-then-shows_damaged-clause-exact
returns-then-shows_damaged-clause-exact c = λ w l a.
    let id = c.args.id in
    let rule = decided_rule a (decisions.Corrupt id c.args.place) refl c.requires.decided in
    let next = rule.2 ∙ ap (λ e. Some e) rule.1 in
    inl (entries.Corrupt id, refl, next, c.corrupt_left.ensures.exact id (sym c.shows_damaged.ensures ∙ c.if-shows_damaged.true) w l a (may_next a (entries.Corrupt id) next).0)

pub returns-else-shows_damaged-clause-exact : goal.returns-else-shows_damaged-clause-exact
returns-else-shows_damaged-clause-exact c = λ w l a.
    let id = c.args.id in
    let rule = decided_rule a (decisions.Corrupt id c.args.place) refl c.requires.decided in
    let next = rule.2 ∙ ap (λ e. Some e) rule.1 in
    let hidden = sym c.shows_damaged.ensures ∙ c.if-shows_damaged.false in
    let known = corrupt_picked_parts c.args.self.now id c.args.place (whole_law a.matches.parts) c.requires.decided hidden in
    inl (entries.Corrupt id, refl, next, c.corrupt_picked.ensures.exact id (record { incoming = known.incoming; active = known.active; hidden = hidden }) w l a (may_next a (entries.Corrupt id) next).0)
