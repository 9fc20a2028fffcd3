use Rattle.std.proofs.Common.{◌≡◌, ◌∙◌, ap, arith, inl, inr, None, option_map, Some, sym}
use Rattle.std.proofs.lemmas.Option.{slice_get_cases}
use Rattle.std.specs.Prelude.{slice_get}
use Rattle.q_model.specs.declared.rows.Row.{Row}
use Rattle.q_positions.specs.Rows.{row_shown}
use Rattle.q_core.proofs.joining.site_at.Goals as goal

pub unreachable-requires : goal.unreachable-requires
unreachable-requires c =
    let none : slice_get c.args.rows.now.rows c.args.i ≡ None = sym c.get.ensures ∙ ap (option_map row_shown) c.in_default.is in
    elim (slice_get_cases c.args.rows.now.rows c.args.i).1 [
      | inl f ↦ let bad : None ≡ Some f.0 = sym none ∙ f.2 in cc
      | inr past ↦ absurd (omega (arith, c.requires, past.0))
    ]

pub returns : goal.returns
returns c = λ r there.
    let both : Some (row_shown c.in-Some.row) ≡ Some r = ap (option_map row_shown) (sym c.in-Some.is) ∙ c.get.ensures ∙ there in
    let same : row_shown c.in-Some.row ≡ r = cc in
    ap (λ (x : Row). x.site) same
