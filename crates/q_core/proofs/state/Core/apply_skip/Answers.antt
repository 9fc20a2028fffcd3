use Rattle.std.specs.Prelude.{slice_get}
use Rattle.q_model.specs.declared.rows.Row.{Row}
use Rattle.q_core.specs.Sending.{is_for, row_for}
use Rattle.std.proofs.Common.{◌≡◌, ap, ◌∙◌, false, inl, refl, sym, Some, true}
use Rattle.q_model.specs.declared.entry.Entry.TheVariants as entries
use Rattle.q_core.specs.declared.decision.Decision.TheVariants as decisions
use Rattle.q_core.proofs.KindLaws.{skip_first}
use Rattle.q_core.proofs.AppliedLaws.{decided_rule, skip_is, skip_number, skip_place, skip_row_is, skip_there}
use Rattle.q_core.proofs.RowWalkLaws.{placed_any}
use Rattle.q_core.proofs.state.Core.apply_skip.Goals as goal

pub returns-then-not-has_row_for-clause-applied : goal.returns-then-not-has_row_for-clause-applied
returns-then-not-has_row_for-clause-applied c = λ w l a.
    let core = c.args.self.now in
    let at = skip_place core c.args.id c.args.site c.args.entry (skip_first core (decisions.Skip c.args.id c.args.site c.args.entry) refl c.requires.decided) in
    let bad : true ≡ false = sym (placed_any (is_for c.args.id c.args.site) core.waiting at.0 at.2) ∙ sym c.has_row_for.ensures ∙ c.if-not-has_row_for.true in cc

pub returns-clause-applied : goal.returns-clause-applied
returns-clause-applied c = λ w l a.
    let id = c.args.id in
    let site = c.args.site in
    let core = c.args.self.now in
    let rule = decided_rule a (decisions.Skip id site c.args.entry) refl c.requires.decided in
    let decided = skip_first core (decisions.Skip id site c.args.entry) refl c.requires.decided in
    let at = skip_place core id site c.args.entry decided in
    let positions = rule.1.0 in
    let there = skip_is core id site c.args.entry at.0 positions at.1 decided rule.1.1 in
    inl (entries.Skip id site positions, (positions, rule.1.1, refl), rule.2 ∙ ap (λ e. Some e) rule.1.2, c.skip.ensures.skipped at.0 at.2 at.1 id site positions there w l a)

pub returns-then-not-has_row_for-clause-noted : goal.returns-then-not-has_row_for-clause-noted
returns-then-not-has_row_for-clause-noted c =
    let core = c.args.self.now in
    let at = skip_place core c.args.id c.args.site c.args.entry (skip_first core (decisions.Skip c.args.id c.args.site c.args.entry) refl c.requires.decided) in
    let bad : true ≡ false = sym (placed_any (is_for c.args.id c.args.site) core.waiting at.0 at.2) ∙ sym c.has_row_for.ensures ∙ c.if-not-has_row_for.true in cc

pub returns-clause-noted : goal.returns-clause-noted
returns-clause-noted c =
    let id = c.args.id in
    let site = c.args.site in
    let core = c.args.self.now in
    let decided = skip_first core (decisions.Skip id site c.args.entry) refl c.requires.decided in
    let at = skip_place core id site c.args.entry decided in
    let at_row : (r : Row) → row_for core id site ≡ Some r → slice_get core.waiting at.0 ≡ Some r = λ r for. skip_row_is core id site c.args.entry at.0 r at.1 decided for in
    let there = skip_there core at.0 at.1 in
    record {
      number = (c.skip.ensures.noted at.0 at.2 there.0 there.1).number ∙ skip_number core id site c.args.entry decided;
      row = λ r for. (c.skip.ensures.noted at.0 at.2 r (at_row r for)).positions;
    }
