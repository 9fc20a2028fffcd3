use Rattle.std.proofs.Common.{◌∙◌, [], ap, arith, get_or, List, Option, option_map, slice_get, Some, sym, ℕ}
use Rattle.q_model.specs.declared.rows.Row.{Row}
use Rattle.q_positions.specs.Heads.{row_of}
use Rattle.q_positions.specs.Rows.{row_shown, Rows}
use Rattle.q_positions.specs.declared.head.Head.{Head}
use Rattle.q_positions.proofs.Standing.{at_row, below_found}
use Rattle.q_positions.proofs.row_list.RowList.get.Goals as goal

pub returns-in_err-head : goal.returns-in_err-head
returns-in_err-head c =
    let a = c.self.inside in
    let k = c.args.place in
    ap (option_map row_shown) c.from_residual.ensures
    ∙ ap (λ (o : Option Head). option_map (λ h. row_of h (get_or a.positions.lists k [])) o) (c.in_err-head.ensures ∙ ap (λ (hs : List Head). slice_get hs k) c.deref.ensures.value)
    ∙ sym (at_row k a.heads.items a.positions.lists)
    ∙ ap (λ (v : Rows). slice_get v.rows k) c.self.view_is

pub overflow_cast-place : goal.overflow_cast-place
overflow_cast-place c =
    let a = c.self.inside in
    let below = below_found c.args.place a.heads.items c.in_ok-head.head.now (sym (c.in_ok-head.ensures ∙ ap (λ (hs : List Head). slice_get hs c.args.place) c.deref.ensures.value)) in
    omega (arith, below, c.self.invariant.within, c.self.invariant.few)

pub returns : goal.returns
returns c =
    let a = c.self.inside in
    let k = c.args.place in
    ap (λ (r : Row). Some r) (c.with.ensures ∙ ap (λ (xs : List ℕ). row_of c.in_ok-head.head.now xs) c.get.ensures)
    ∙ ap (λ (o : Option Head). option_map (λ h. row_of h (get_or a.positions.lists k [])) o) (c.in_ok-head.ensures ∙ ap (λ (hs : List Head). slice_get hs k) c.deref.ensures.value)
    ∙ sym (at_row k a.heads.items a.positions.lists)
    ∙ ap (λ (v : Rows). slice_get v.rows k) c.self.view_is
