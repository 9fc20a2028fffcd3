use Rattle.std.proofs.Common.{◌∙◌, ap, option_map, Some, sym}
use Rattle.q_positions.specs.Rows.{row_shown}
use Rattle.q_core.proofs.AppliedLaws.{skip_found}
use Rattle.q_core.specs.Rules.{skip_decision}
use Rattle.q_core.specs.declared.decision.Decision.TheVariants as decisions
use Rattle.q_core.proofs.state.Core.next_skip.Goals as goal

pub returns-in-Some : goal.returns-in-Some
returns-in-Some c =
    let me = c.args.self.now in
    let row = row_shown c.in-Some.row in
    ap (λ k. Some (decisions.Skip row.id row.site k)) c.next_skip_number.ensures
    ∙ ap (option_map (skip_decision me)) (ap (option_map row_shown) (sym c.in-Some.is) ∙ c.first_dead.ensures) ∙ sym (skip_found me)

pub returns-in-None : goal.returns-in-None
returns-in-None c =
    let me = c.args.self.now in
    ap (option_map (skip_decision me)) (ap (option_map row_shown) (sym c.in-None.is) ∙ c.first_dead.ensures) ∙ sym (skip_found me)
