use Rattle.std.proofs.Common.{◌≡◌, ◌∙◌, ap, None, Some, sym}
use Rattle.std.specs.Prelude.{option_map}
use Rattle.q_positions.specs.Rows.{row_shown}
use Rattle.std.specs.Prelude.{◌&&◌}
use Rattle.q_core.specs.Held.{have_space}
use Rattle.q_core.specs.Leaving.{fails_in}
use Rattle.q_core.proofs.state.Core.fails.Goals as goal

pub returns-then-id_expired : goal.returns-then-id_expired
returns-then-id_expired c = λ r found.
    let old = c.args.self.now in
    let row = row_shown c.in-Some.row in
    let both : Some row ≡ Some r = sym (ap (option_map row_shown) c.in-Some.is) ∙ c.row_for.ensures ∙ found in
    let it : row ≡ r = cc in
    c.has_space.ensures
    ∙ ap (λ b. b && have_space old row.positions) (sym c.if-id_expired.true ∙ c.id_expired.ensures) ∙ ap (fails_in old) it

pub returns-else-id_expired : goal.returns-else-id_expired
returns-else-id_expired c = λ r found.
    let old = c.args.self.now in
    let row = row_shown c.in-Some.row in
    let both : Some row ≡ Some r = sym (ap (option_map row_shown) c.in-Some.is) ∙ c.row_for.ensures ∙ found in
    let it : row ≡ r = cc in
    ap (λ b. b && have_space old row.positions) (sym c.if-id_expired.false ∙ c.id_expired.ensures) ∙ ap (fails_in old) it

pub returns-in-None : goal.returns-in-None
returns-in-None c = λ r found.
    let bad : None ≡ Some r = sym (ap (option_map row_shown) c.in-None.is) ∙ c.row_for.ensures ∙ found in cc
