use Rattle.std.proofs.Common.{◌∙◌, ap, sym}
use Rattle.std.specs.Prelude.{option_map}
use Rattle.q_positions.specs.Rows.{row_shown}
use Rattle.q_core.proofs.OpenLaws.{full, nowhere, past, there}
use Rattle.q_core.proofs.grouping.row_for.Goals as goal

pub returns-in_err-place : goal.returns-in_err-place
returns-in_err-place c =
    c.from_residual.ensures
    ∙ nowhere c.args.limit c.args.site.now c.args.rows.now.rows c.args.open_rows.now.items c.requires (sym c.place.ensures ∙ c.in_err-place.was)

pub returns-in_err-row : goal.returns-in_err-row
returns-in_err-row c =
    c.from_residual-in_err-row.ensures
    ∙ past c.args.limit c.args.site.now c.args.rows.now.rows c.args.open_rows.now.items c.requires c.in_ok-place.place (sym c.place.ensures ∙ c.in_ok-place.was)
    (ap (option_map row_shown) (sym c.in_err-row.was) ∙ c.get.ensures)

pub returns-then-has_space : goal.returns-then-has_space
returns-then-has_space c =
    there c.args.limit c.args.site.now c.args.rows.now.rows c.args.open_rows.now.items c.requires c.in_ok-place.place (row_shown c.in_ok-row.row) (sym c.place.ensures ∙ c.in_ok-place.was)
    (ap (option_map row_shown) (sym c.in_ok-row.was) ∙ c.get.ensures) (sym c.has_space.ensures ∙ c.if-has_space.true)

pub returns-else-has_space : goal.returns-else-has_space
returns-else-has_space c =
    full c.args.limit c.args.site.now c.args.rows.now.rows c.args.open_rows.now.items c.requires c.in_ok-place.place (row_shown c.in_ok-row.row) (sym c.place.ensures ∙ c.in_ok-place.was)
    (ap (option_map row_shown) (sym c.in_ok-row.was) ∙ c.get.ensures) (sym c.has_space.ensures ∙ c.if-has_space.false)
